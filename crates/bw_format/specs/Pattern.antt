-- Patterns, and the texts that are in them.
use Rattle.std.specs.Prelude.{◌≡◌, ◌≢◌, ◌⊎◌, ℕ, ◌+◌, List, [], ◌∷◌, ◌++◌, IsTrue}
use Rattle.bw_format.specs.declared.pattern.Class.{Class}
use Rattle.bw_format.specs.Classes.{holds}

pub data Pattern : Type 0 where
  nothing : Pattern
  one : Class → Pattern
  sequence : Pattern → Pattern → Pattern
  either : Pattern → Pattern → Pattern
  star : Pattern → Pattern
  plus : Pattern → Pattern
  optional : Pattern → Pattern
  group : Pattern → Pattern

-- the text is one in `P` and, behind it, one in `Q`
abbrev pub Joined : (List ℕ → Type 0) → (List ℕ → Type 0) → List ℕ → Type 0
Joined P Q text = (front : List ℕ) × (back : List ℕ) × (text ≡ front ++ back) × P front × Q back

-- the text is empty, or a text in `P` that isn't empty before one that is so again
pub data Repeated (P : List ℕ → Type 0) : List ℕ → Type 0 where
  none : Repeated P []
  more : (front back : List ℕ) → front ≢ [] → P front → Repeated P back → Repeated P (front ++ back)

-- the text, a list of characters, is in the pattern
abbrev pub In : Pattern → List ℕ → Type 0
In nothing text = text ≡ []
In (one class) text = (c : ℕ) × (text ≡ c ∷ []) × IsTrue (holds class c)
In (sequence p q) text = Joined (In p) (In q) text
In (either p q) text = In p text ⊎ In q text
In (star p) text = Repeated (In p) text
In (plus p) text = Joined (In p) (Repeated (In p)) text
In (optional p) text = (text ≡ []) ⊎ In p text
In (group p) text = In p text

-- how many nodes it has
abbrev pub nodes : Pattern → ℕ
nodes nothing = 1
nodes (one class) = 1
nodes (sequence p q) = 1 + nodes p + nodes q
nodes (either p q) = 1 + nodes p + nodes q
nodes (star p) = 1 + nodes p
nodes (plus p) = 1 + nodes p
nodes (optional p) = 1 + nodes p
nodes (group p) = 1 + nodes p

-- how many places it has, each of which takes one character
abbrev pub places : Pattern → ℕ
places nothing = 0
places (one class) = 1
places (sequence p q) = places p + places q
places (either p q) = places p + places q
places (star p) = places p
places (plus p) = places p
places (optional p) = places p
places (group p) = places p

-- how many repetitions it has, stars and pluses
abbrev pub repeats : Pattern → ℕ
repeats nothing = 0
repeats (one class) = 0
repeats (sequence p q) = repeats p + repeats q
repeats (either p q) = repeats p + repeats q
repeats (star p) = 1 + repeats p
repeats (plus p) = 1 + repeats p
repeats (optional p) = repeats p
repeats (group p) = repeats p
