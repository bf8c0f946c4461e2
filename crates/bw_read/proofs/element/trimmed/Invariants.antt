use Rattle.std.proofs.Common.{◌≡◌, ◌≤◌, take, length}
use Rattle.bw_read.specs.Element.{trimmed}
use Rattle.bw_read.proofs.element.trimmed.Given as goal

abbrev pub invariant-end : goal.invariant-end
invariant-end l = record {
  within : l.n ≤ length l.bytes;
  same : trimmed (take l.n l.bytes) ≡ trimmed l.bytes;
}

abbrev pub decreases-end : goal.decreases-end
decreases-end l = l.n
