-- What is asked of sets of strings.
use Rattle.std.specs.Prelude.{ℕ, ◌<◌, Bool, true, false, List, [], length, slice_get, unwrap_or}
use Rattle.std.specs.List.{list_any, list_all, AllByRecursion}
use Rattle.bw_lang.specs.Text.Bytes.{is_blank_text}
use Rattle.bw_lang.specs.Table.Names.{same}
use Rattle.bw_strings.specs.declared.strings.StrSet.{StrSet}
use Rattle.bw_strings.specs.declared.strings.StrSet.TheVariants.{Any, Of}

-- the literal of this number
abbrev pub text_of : List (List ℕ) → ℕ → List ℕ
text_of literals n = unwrap_or (slice_get literals n) []

-- its numbers are those of literals
abbrev pub AreLiterals : List (List ℕ) → StrSet → Type 0
AreLiterals literals Any = Unit {0}
AreLiterals literals (Of xs) = AllByRecursion (λ n. n < length literals) xs

-- the string is in the set
abbrev pub has_string : List (List ℕ) → StrSet → List ℕ → Bool
has_string literals Any s = true
has_string literals (Of xs) s = list_any (λ n. same (text_of literals n) s) xs

-- the text is one of these words
abbrev pub is_among : List (List ℕ) → List ℕ → Bool
is_among words s = list_any (same s) words

-- it isn't any string, and each of its literals is one of these words
abbrev pub within : List (List ℕ) → List (List ℕ) → StrSet → Bool
within literals words Any = false
within literals words (Of xs) = list_all (λ n. is_among words (text_of literals n)) xs

-- it isn't any string, and each of its literals is blank
abbrev pub blank : List (List ℕ) → StrSet → Bool
blank literals Any = false
blank literals (Of xs) = list_all (λ n. is_blank_text (text_of literals n)) xs
