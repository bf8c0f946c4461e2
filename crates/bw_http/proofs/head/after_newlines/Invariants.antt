use Rattle.std.proofs.Common.{◌≡◌, ◌-◌, ◌≤◌, length, drop}
use Rattle.bw_http.specs.Heads.{skip_newlines}
use Rattle.bw_http.proofs.head.after_newlines.Given as goal

abbrev pub invariant-loop-first : goal.invariant-loop-first
invariant-loop-first l = record { in_range : l.first ≤ length l.bytes; same : skip_newlines (drop l.first l.bytes) ≡ skip_newlines l.bytes }

abbrev pub decreases-loop-first : goal.decreases-loop-first
decreases-loop-first l = length l.bytes - l.first
