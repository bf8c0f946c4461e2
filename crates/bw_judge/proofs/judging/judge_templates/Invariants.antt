use Rattle.std.proofs.Common.{take}
use Rattle.bw_faults.specs.Lists.{Adds, OfSome}
use Rattle.bw_judge.specs.Pages.{OfOutline}
use Rattle.bw_judge.proofs.judging.judge_templates.Given as goal

abbrev pub invariant-loop-n : goal.invariant-loop-n
invariant-loop-n l =
    Adds (OfSome (OfOutline l.basis.templates.now l.basis.literals.now l.outline l.basis.schema.now l.point) (take l.n-index l.order)) l.initial.faults l.faults
