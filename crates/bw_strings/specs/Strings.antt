-- Sets of numbered strings, or all strings.
use Rattle.std.specs.Prelude.{ℕ, ◌+◌, ◌^◌, ◌<◌, Bool, true, false, [], ◌∷◌, length, min}
use Rattle.std.specs.Ordering.{nat_cmp}
use Rattle.std.specs.List.{AllByRecursion}
use Rattle.bw_solve.specs.Sets.{IsSet, is_within, merge}
use Rattle.bw_strings.specs.declared.strings.StrSet.{StrSet}
use Rattle.bw_strings.specs.declared.strings.StrSet.TheVariants.{Any, Of}

-- the numbers ascend, and are numbers of 32 bits
abbrev pub IsWellFormed : StrSet → Type 0
IsWellFormed Any = Unit {0}
IsWellFormed (Of xs) = IsSet nat_cmp xs × AllByRecursion (λ x. x < 2 ^ 32) xs

abbrev pub AreWellFormed : StrSet → StrSet → Type 0
AreWellFormed a b = IsWellFormed a × IsWellFormed b

-- all of the first may be the second
abbrev pub is_below : StrSet → StrSet → Bool
is_below a Any = true
is_below Any (Of ys) = false
is_below (Of xs) (Of ys) = is_within nat_cmp xs ys

-- the union; all strings where either side is all strings
abbrev pub both : StrSet → StrSet → StrSet
both Any b = Any
both (Of xs) Any = Any
both (Of xs) (Of ys) = Of (merge nat_cmp xs ys)

-- the members up to 15; a greater set and all strings count 16
abbrev pub size_of : StrSet → ℕ
size_of Any = 16
size_of (Of xs) = min (length xs) 16

abbrev pub rank_of : StrSet → ℕ
rank_of Any = 2 ^ 32 + 1
rank_of (Of xs) = length xs

abbrev pub is_none : StrSet → Bool
is_none Any = false
is_none (Of []) = true
is_none (Of (x ∷ xs)) = false
