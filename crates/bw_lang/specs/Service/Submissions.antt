-- What a client submitted.
use Rattle.std.specs.Prelude.{ℕ, List, map, filter}
use Rattle.std.specs.List.{AllByRecursion}
use Rattle.std.specs.Str.{IsUtf8}
use Rattle.bw_lang.specs.Table.Names.{same}

-- the values of the pairs of that name, in order
abbrev pub values_of : List ℕ → List (List ℕ × List ℕ) → List (List ℕ)
values_of name pairs = map (λ (pair : List ℕ × List ℕ). pair.1) (filter (λ (pair : List ℕ × List ℕ). same name pair.0) pairs)

-- each value of the form is UTF-8
abbrev pub IsTextForm : List (List ℕ × List ℕ) → Type 0
IsTextForm form = AllByRecursion (λ (pair : List ℕ × List ℕ). IsUtf8 pair.1) form
