use Rattle.std.proofs.Common.{◌≡◌, take, map}
use Rattle.bw_flow.specs.declared.point.Point.{Point}
use Rattle.bw_analyse.proofs.facts.scopes_of.Given as goal

abbrev pub invariant-loop-point : goal.invariant-loop-point
invariant-loop-point l = l.scopes.items ≡ map (λ (p : Point). p.scope) (take l.point-index l.points)
