-- What a page graph says of one template.
use Rattle.std.specs.Prelude.{ℕ, ◌==◌, Bool, ◌&&◌, ◌||◌, List, [], slice_index_or}
use Rattle.std.specs.List.{list_any}
use Rattle.std.specs.List.Sorted.{IsNonDecreasingBy}

-- links: a gap and a template that may stand there; open_gaps: the gaps that may be left open; said: those that some string may fill; wordy: those
-- that a string may fill that isn't blank
pub record Node : Type 0 where
  pub links : List (ℕ × ℕ)
  pub open_gaps : List ℕ
  pub said : List ℕ
  pub wordy : List ℕ

-- the links are in the order of their gaps
abbrev pub Ascends : List (ℕ × ℕ) → Type 0
Ascends links = IsNonDecreasingBy (λ l. l.0) links

-- nothing is known
abbrev pub no_node : Node
no_node = record { links = []; open_gaps = []; said = []; wordy = [] }

-- the node of the template of that number
abbrev pub node_at : List Node → ℕ → Node
node_at nodes n = slice_index_or nodes n no_node

-- the number is in the list
abbrev pub among : List ℕ → ℕ → Bool
among list n = list_any (λ m. m == n) list

-- the gap may be left open, or filled by a string
abbrev pub is_free : Node → ℕ → Bool
is_free node g = among node.open_gaps g || among node.said g

-- a link of that gap leads to a template of which it is known
abbrev pub led : Node → (ℕ → Bool) → ℕ → Bool
led node known g = list_any (λ l. l.0 == g && known l.1) node.links

-- a link of any gap does
abbrev pub linked : Node → (ℕ → Bool) → Bool
linked node known = list_any (λ l. known l.1) node.links
