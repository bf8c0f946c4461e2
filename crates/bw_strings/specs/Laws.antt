-- Laws of sets of strings.
use Rattle.std.specs.Prelude.{◌≡◌, ◌<◌, ℕ, true, ◌||◌, List, [], length}
use Rattle.bw_lang.specs.Table.Names.{name_number, with_names}
use Rattle.bw_strings.specs.declared.strings.StrSet.{StrSet}
use Rattle.bw_strings.specs.Asking.{text_of, has_string, is_among, within, blank}
use Rattle.bw_lang.specs.Text.Bytes.{is_blank_text}
use Rattle.bw_strings.specs.Strings.{both, is_below}

-- the join has the strings of both
abbrev pub JoinByStrings : Type 0
JoinByStrings = (literals : List (List ℕ)) (a b : StrSet) (s : List ℕ) → has_string literals (both a b) s ≡ (has_string literals a s || has_string literals b s)

-- what is below has no other string
abbrev pub BelowByStrings : Type 0
BelowByStrings = (literals : List (List ℕ)) (a b : StrSet) (s : List ℕ) → is_below a b ≡ true → has_string literals a s ≡ true → has_string literals b s ≡ true

-- a set is within some words where each string that it has is one of them
abbrev pub WithinByStrings : Type 0
WithinByStrings = (literals words : List (List ℕ)) (a : StrSet) → within literals words a ≡ true → (s : List ℕ) → has_string literals a s ≡ true
    → is_among words s ≡ true

-- and it is blank where each is blank
abbrev pub BlankByStrings : Type 0
BlankByStrings = (literals : List (List ℕ)) (a : StrSet) → blank literals a ≡ true → (s : List ℕ) → has_string literals a s ≡ true → is_blank_text s ≡ true

-- each literal has one number
abbrev pub LiteralsDiffer : Type 0
LiteralsDiffer = (strings : List (List ℕ)) (n : ℕ) → n < length (with_names [] strings)
    → name_number (with_names [] strings) (text_of (with_names [] strings) n) ≡ n
