-- Tables of names: each name once, in the order in which the names were first seen.
use Rattle.std.specs.Prelude.{◌≡◌, ◌<◌, ℕ, Bool, nat_eq, if◌then◌else◌, List, [], ◌∷◌, ◌++◌, length, fold, find, option_map, position, Option, String}
use Rattle.std.specs.List.{list_any, position_or_len, All}
use Rattle.std.specs.HashMap.{HashMap, get_by_text}
use lib.Pointwise.{pointwise}

-- the two names have the same bytes
abbrev pub same : List ℕ → List ℕ → Bool
same a b = pointwise nat_eq a b

-- the place of a name in the table, counted from 0; of a name that isn't there, the place that it would get
abbrev pub name_number : List (List ℕ) → List ℕ → ℕ
name_number names n = position_or_len (same n) names

-- each name of the table has its place as its number, and no other text has a number
abbrev pub AreNumbered : {A S : Type 0} → List (List ℕ) → HashMap (String A) ℕ S → Type 0
AreNumbered names numbers = (n : List ℕ) → get_by_text numbers n ≡ position (same n) names

-- the table with the name in it: behind the others, unless it is there
abbrev pub with_name : List (List ℕ) → List ℕ → List (List ℕ)
with_name names n = if list_any (same n) names then names else names ++ n ∷ []

-- the table with each of the names taken in, one after the other
abbrev pub with_names : List (List ℕ) → List (List ℕ) → List (List ℕ)
with_names names new = fold with_name names new

-- the later table has the names of the earlier one at its front
pub record Extends (old new : List (List ℕ)) : Type 0 where
  pub more : List (List ℕ)
  pub is : new ≡ old ++ more

-- a name that is in a table keeps its number when names come behind it
abbrev pub NumbersStay : Type 0
NumbersStay = (old new : List (List ℕ)) (n : List ℕ) → Extends old new → name_number old n < length old → name_number new n ≡ name_number old n

-- taking names in leaves those that are there at the front
abbrev pub NamesStay : Type 0
NamesStay = (old added : List (List ℕ)) → Extends old (with_names old added)

-- the names that were taken in are in the table
abbrev pub AddedAreThere : Type 0
AddedAreThere = (old added : List (List ℕ)) → All (λ n. name_number (with_names old added) n < length (with_names old added)) added

-- what stands beside the first of these that has the name
abbrev pub beside : {A : Type 0} → List ℕ → List (List ℕ × A) → Option A
beside w pairs = option_map (λ x. x.1) (find (λ x. same w x.0) pairs)
