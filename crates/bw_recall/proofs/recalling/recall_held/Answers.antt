use Rattle.std.proofs.Common.{sym, ◌∙◌}
use Rattle.bw_journal.specs.Reading.{entry}
use Rattle.bw_recall.proofs.Advancing.{found_is_short}
use Rattle.bw_recall.proofs.recalling.recall_held.Goals as goal

pub returns-in-Done-clause-few : goal.returns-in-Done-clause-few
returns-in-Done-clause-few g c =
    found_is_short c.args.sum c.in-Whole.found.sum c.bytes.result.now c.bytes-in-Whole.result.now c.in-Whole.found.rest.now
    (entry c.in-Whole.found.key c.in-Whole.found.message.now) (c.bytes-in-Whole.ensures.value ∙ sym c.bytes.ensures.value) c.in-Whole.ensures.next
