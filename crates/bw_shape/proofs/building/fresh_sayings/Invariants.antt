use Rattle.std.proofs.Common.{◌≡◌, replicate, []}
use Rattle.bw_shape.proofs.building.fresh_sayings.Given as goal

abbrev pub invariant-loop : goal.invariant-loop
invariant-loop l = l.list.items ≡ replicate l.counter []
