use Rattle.std.proofs.Common.{take}
use Rattle.bw_faults.specs.Lists.{Adds, OfSome}
use Rattle.bw_judge.specs.Found as found
use Rattle.bw_judge.proofs.attributes.judge_attrs.Given as goal

abbrev pub invariant-loop-attr : goal.invariant-loop-attr
invariant-loop-attr l = Adds (OfSome (found.OfAttr l.scene l.rule l.spot) (take l.attr-index l.attr-items)) l.initial.faults l.faults
