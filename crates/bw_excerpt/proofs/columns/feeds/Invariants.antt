use Rattle.std.proofs.Common.{◌≡◌, ◌≤◌, ◌+◌, drop}
use Rattle.bw_excerpt.specs.Columns as spec
use Rattle.bw_excerpt.proofs.columns.feeds.Given as goal

abbrev pub invariant-loop-byte : goal.invariant-loop-byte
invariant-loop-byte l = record { few : l.count ≤ l.byte-index; rest : l.count + spec.feeds (drop l.byte-index l.bytes) ≡ spec.feeds l.bytes }
