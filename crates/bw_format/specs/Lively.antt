-- Patterns each of whose places takes some character.
use Rattle.std.specs.Prelude.{◌≤◌, ℕ, IsTrue}
use Rattle.std.specs.Char.{IsScalar}
use Rattle.bw_format.specs.declared.pattern.Class.{Class}
use Rattle.bw_format.specs.Classes.{holds}
use Rattle.bw_format.specs.Pattern.{Pattern, nothing, one, sequence, either, star, plus, optional, group, places, repeats}
use Rattle.bw_format.specs.declared.limits.TheConstants.{MAX_PATTERN_CHARS}

-- the class holds some character
abbrev pub TakesSome : Class → Type 0
TakesSome class = (c : ℕ) × IsScalar c × IsTrue (holds class c)

abbrev pub Lively : Pattern → Type 0
Lively nothing = Unit {0}
Lively (one class) = TakesSome class
Lively (sequence p q) = Lively p × Lively q
Lively (either p q) = Lively p × Lively q
Lively (star p) = Lively p
Lively (plus p) = Lively p
Lively (optional p) = Lively p
Lively (group p) = Lively p

-- its lights can be told: each place takes some character, and there are at most 256 places and 256 repetitions
abbrev pub IsUsable : Pattern → Type 0
IsUsable p = Lively p × (places p ≤ MAX_PATTERN_CHARS) × (repeats p ≤ MAX_PATTERN_CHARS)
