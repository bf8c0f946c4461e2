use Rattle.std.proofs.Common.{ℕ, List, subst}
use Rattle.bw_keeping.specs.Taking.{Takes}
use Rattle.bw_world.specs.Streams.Answers.{place}
use Rattle.bw_keeping.proofs.room.Room.take_in.Goals as goal

pub returns-clause-taken : goal.returns-clause-taken
returns-clause-taken g c =
    let link = c.take_kept-taken.new.link in
    let taken = c.take_kept-taken.result in (
      record { link = link; taken = taken },
      c.push.ensures,
      subst (λ (bytes : List ℕ). Takes c.args.formats.now c.args.world.now.service
          (place g.C.Channel c.args.world.now bytes c.args.link (g.K.Keys.coming c.args.keys.now) c.args.steps.now)
          (place g.C.Channel c.take_kept-taken.new.world c.take_kept-taken.new.intake link (g.K.Keys.coming c.take_kept-taken.new.keys)
          c.take_kept-taken.new.steps) c.args.self.now.group c.take_kept-taken.new.group taken) c.clear.ensures c.take_kept-taken.ensures.takes,
      c.take_kept-taken.ensures.fit,
      c.take_kept-taken.ensures.reads,
    )
