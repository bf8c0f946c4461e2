use Rattle.std.proofs.Common.{◌≡◌, length}
use Rattle.bw_http.specs.Paths.{from_slash}
use Rattle.bw_http.proofs.paths.from_slash.Given as goal

abbrev pub invariant-loop-rest : goal.invariant-loop-rest
invariant-loop-rest l = from_slash l.rest ≡ from_slash l.bytes

abbrev pub decreases-loop-rest : goal.decreases-loop-rest
decreases-loop-rest l = length l.rest
