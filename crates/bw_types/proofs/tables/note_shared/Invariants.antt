use Rattle.std.proofs.Common.{◌≡◌, map, take}
use Rattle.bw_types.specs.Tables.{with_kinds}
use Rattle.bw_types.proofs.tables.note_shared.Given as goal

abbrev pub invariant-loop-variable : goal.invariant-loop-variable
invariant-loop-variable l = l.kinds ≡ with_kinds l.initial.kinds (map (λ v. (v.name, v.kind)) (take l.variable-index l.shared))
