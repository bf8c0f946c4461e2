use Rattle.std.proofs.Common.{◌≡◌, drop}
use Rattle.bw_sum.specs.Edges.{edges_from}
use Rattle.bw_sum.proofs.parts.linked.Given as goal

abbrev pub invariant-loop-root : goal.invariant-loop-root
invariant-loop-root l = edges_from l.all l.from l.gap (drop l.root-index l.roots) ≡ edges_from l.fn.edges l.from l.gap l.roots
