-- Summaries that can be held: well formed, with numbers of 32 bits.
use Rattle.std.specs.Prelude.{ℕ, ◌+◌, ◌*◌, ◌^◌, ◌<◌}
use Rattle.std.specs.List.{AllByRecursion}
use Rattle.bw_strings.specs.declared.strings.StrSet.{StrSet}
use Rattle.bw_sum.specs.Summaries.{AreAlike}
use Rattle.bw_sum.specs.declared.summary.Summary.{Summary}

abbrev pub IsSmall1 : ℕ → Type 0
IsSmall1 n = n < 2 ^ 32

abbrev pub IsSmall2 : ℕ × ℕ → Type 0
IsSmall2 t = (t.0 < 2 ^ 32) × (t.1 < 2 ^ 32)

abbrev pub IsSmall3 : ℕ × ℕ × ℕ → Type 0
IsSmall3 t = (t.0 < 2 ^ 32) × (t.1 < 2 ^ 32) × (t.2 < 2 ^ 32)

abbrev pub IsSmallLabel : (ℕ × ℕ) × StrSet → Type 0
IsSmallLabel e = IsSmall2 e.0

-- all numbers of templates and gaps are numbers of 32 bits
pub record IsSmall (s : Summary) : Type 0 where
  pub roots : AllByRecursion IsSmall1 s.roots
  pub edges : AllByRecursion IsSmall3 s.edges
  pub texts : AllByRecursion IsSmallLabel s.texts
  pub tracks : AllByRecursion IsSmall2 s.tracks
  pub lacks : AllByRecursion IsSmall1 s.lacks

-- the parts are in order, without doubles, and have numbers of 32 bits
abbrev pub IsWellFormed : Summary → Type 0
IsWellFormed s = AreAlike s s × IsSmall s

-- no well formed summary has a higher rank: there are no more roots, edges, labels with their strings, tracks and lacks than their numbers allow
abbrev pub highest_rank : ℕ
highest_rank = 4294967296 + (79228162514264337593543950336 + (18446744073709551616 * 4294967297 + (18446744073709551616 + 4294967296)))
