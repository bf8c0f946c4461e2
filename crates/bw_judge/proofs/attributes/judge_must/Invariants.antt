use Rattle.std.proofs.Common.{take}
use Rattle.bw_faults.specs.Lists.{Adds, OfSome}
use Rattle.bw_judge.specs.Found as found
use Rattle.bw_judge.proofs.attributes.judge_must.Given as goal

abbrev pub invariant-loop-name : goal.invariant-loop-name
invariant-loop-name l = Adds (OfSome (found.OfMust l.scene l.spot l.attrs) (take l.name-index l.name-items)) l.initial.faults l.faults
