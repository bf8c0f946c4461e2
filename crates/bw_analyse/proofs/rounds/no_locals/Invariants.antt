use Rattle.std.proofs.Common.{◌≡◌, take, map}
use Rattle.bw_flow.specs.declared.point.Local.{Local}
use Rattle.bw_analyse.specs.Abstracts.{least_of}
use Rattle.bw_analyse.proofs.rounds.no_locals.Given as goal

abbrev pub invariant-loop-local : goal.invariant-loop-local
invariant-loop-local l = l.row ≡ map (λ (x : Local). least_of x.kind) (take l.local-index l.local-items)
