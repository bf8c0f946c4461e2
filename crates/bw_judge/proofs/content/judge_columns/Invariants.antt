use Rattle.bw_shape.specs.Rows.Rows.{flag}
use Rattle.bw_faults.specs.Lists.{Adds}
use Rattle.bw_judge.specs.Content.{OfContent}
use Rattle.bw_judge.proofs.content.judge_columns.Given as goal

abbrev pub invariant-loop-number : goal.invariant-loop-number
invariant-loop-number l =
    Adds (OfContent l.allowed.spot l.allowed.has.now l.allowed.text l.allowed.tags.now (flag l.given) l.number) l.fn.faults l.faults
