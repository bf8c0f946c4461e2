-- Each word to come has 64 bits: the laws of the keys of this crate.
use Rattle.std.specs.Prelude.{◌<◌, ◌^◌, ℕ, zero, suc, List, [], ◌∷◌}
use Rattle.std.proofs.Common.{lit<}
use Rattle.std.proofs.Math.Nat.{mod-lt}
use Rattle.rand_core.specs.Stream.{Stream, next_u64}
use Rattle.bw_out.specs.Adapters.{words_of}
use Rattle.bw_out.specs.Told.{listed}

pub listed_fit : (words : List ℕ) (n : ℕ) → listed words n < 2 ^ 64
listed_fit [] n = lit< tt
listed_fit (word ∷ words) zero = mod-lt word (lit< tt)
listed_fit (word ∷ words) (suc n) = listed_fit words n

pub words_fit : (stream : Stream) (n : ℕ) → words_of stream n < 2 ^ 64
words_fit stream zero = mod-lt (next_u64 stream).0 (lit< tt)
words_fit stream (suc n) = words_fit (next_u64 stream).1 n
