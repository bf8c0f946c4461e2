use Rattle.std.proofs.Common.{◌≡◌, length}
use Rattle.bw_saved.specs.Sessions.Weights.{are_apart}
use Rattle.bw_saved.proofs.sessions.are_apart.Given as goal

abbrev pub invariant-loop-first : goal.invariant-loop-first
invariant-loop-first l = are_apart l.rest ≡ are_apart l.records

abbrev pub decreases-loop-first : goal.decreases-loop-first
decreases-loop-first l = length l.rest
