use Rattle.bw_keeping.proofs.flushing.flush.Goals as goal

pub returns-in-Ok-clause-flushes : goal.returns-in-Ok-clause-flushes
returns-in-Ok-clause-flushes g c =
    let given = c.reply_to_all.ensures.given in
    record {
      keeps = c.in-Ok.ensures.keeps;
      backs = given.0;
      replied = given.1;
      returned = given.2;
      bytes = c.in-Ok.ensures.bytes;
      sum = c.in-Ok.ensures.sum;
      waiting = c.reply_to_all.ensures.none;
    }

pub returns-in-Err-clause-closes : goal.returns-in-Err-clause-closes
returns-in-Err-clause-closes g c =
    record { deeds = c.in-Err.ensures.none; returned = c.give_up_all.ensures.given; waiting = c.give_up_all.ensures.none }
