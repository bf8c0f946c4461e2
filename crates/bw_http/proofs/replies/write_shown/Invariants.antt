use Rattle.std.proofs.Common.{◌≡◌, ℕ, List, ◌++◌, length, map}
use Rattle.bw_out.specs.Sends.{Sent}
use Rattle.bw_http.specs.Replies.{shown}
use Rattle.bw_http.proofs.replies.write_shown.Given as goal

abbrev pub invariant-loop-line : goal.invariant-loop-line
invariant-loop-line g l = (front : List ℕ) × Sent g.W.Channel l.fn.sink l.sink front × (front ++ map shown l.rest ≡ map shown l.name)

abbrev pub decreases-loop-line : goal.decreases-loop-line
decreases-loop-line g l = length l.rest
