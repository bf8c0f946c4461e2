-- Which of some names is nearest to a word.
use Rattle.std.specs.Prelude.{◌≡◌, ◌≤◌, ◌/◌, ℕ, Bool, true, false, nat_eq, nat_le, nat_lt, if◌then◌else◌, List, [], ◌∷◌, length, Option, Some, None}
use Rattle.std.specs.Prelude.{All, Contains, MatchOption}
use Rattle.strsim.specs.Edits.{levenshtein_row}

-- how many letters are changed, put in or left out between two words
abbrev pub distance : List ℕ → List ℕ → ℕ
distance from to = levenshtein_row nat_eq from to (length to)

-- a name is near where those are at most a third of the word's letters
abbrev pub is_near : List ℕ → List ℕ → Bool
is_near word own = nat_le (distance word own) (length word / 3)

-- a name is nearer than the nearest so far; where there is none yet, it is near
abbrev pub is_nearer : List ℕ → Option (List ℕ) → List ℕ → Bool
is_nearer word None own = is_near word own
is_nearer word (Some best) own = nat_lt (distance word own) (distance word best)

-- of the nearest name so far and another one the nearer, and the first where both are as near
abbrev pub nearer : List ℕ → Option (List ℕ) → List ℕ → Option (List ℕ)
nearer word best own = if is_nearer word best own then Some own else best

-- of the nearest name so far and more names the nearest
abbrev pub nearest_behind : List ℕ → Option (List ℕ) → List (List ℕ) → Option (List ℕ)
nearest_behind word best [] = best
nearest_behind word best (own ∷ names) = nearest_behind word (nearer word best own) names

-- of all of these
abbrev pub nearest : List ℕ → List (List ℕ) → Option (List ℕ)
nearest word names = nearest_behind word None names

-- the nearest name is one of them and near, and none of them is nearer; where there is none, none is near
abbrev pub NearestIsNear : Type 0
NearestIsNear = (word : List ℕ) (names : List (List ℕ))
    → MatchOption (nearest word names) (All (λ own. is_near word own ≡ false) names)
    (λ best. Contains names best × (is_near word best ≡ true) × All (λ own. distance word best ≤ distance word own) names)
