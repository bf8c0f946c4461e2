use Rattle.std.proofs.Common.{◌≡◌, ◌++◌, drop}
use Rattle.bw_diagnose.specs.Gaps.{gaps_in}
use Rattle.bw_diagnose.specs.declared.gaps.Part.TheVariants as parts
use Rattle.bw_diagnose.proofs.gaps.push_gaps.Given as goal

abbrev pub invariant-loop-index : goal.invariant-loop-index
invariant-loop-index l = l.names.items ++ gaps_in l.part (drop l.index l.inside) ≡ l.initial.names.items ++ gaps_in parts.Outside l.inside
