use Rattle.std.proofs.Common.{◌≡◌, ℕ, ◌<◌, ◌≢◌, false, length, slice_index}
use Rattle.bw_shape.specs.Rows.Rows.{flag}
use Rattle.bw_shape.proofs.readers.wake.Given as goal

abbrev pub invariant-loop-reader : goal.invariant-loop-reader
invariant-loop-reader l = record {
  len : length l.due ≡ length l.initial.due;
  before : (n : ℕ) → flag l.due n ≡ false → flag l.initial.due n ≡ false;
  apart : (n k : ℕ) → n < length l.initial.due → flag l.due n ≡ false → k < l.reader-index → slice_index l.reader-items k ≢ n;
}
