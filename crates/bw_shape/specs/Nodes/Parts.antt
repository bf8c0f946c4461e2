-- What a summary says of one template.
use Rattle.std.specs.Prelude.{◌≡◌, ℕ, ◌==◌, if◌then◌else◌, List, [], ◌∷◌, ◌++◌, ◌<◌, slice_index_or, length}
use Rattle.bw_strings.specs.declared.strings.StrSet.{StrSet}
use Rattle.bw_strings.specs.Asking.{blank}
use Rattle.bw_shape.specs.Nodes.Nodes.{Node, no_node}

-- the links of template n, by the edges
abbrev pub links_of : ℕ → List (ℕ × ℕ × ℕ) → List (ℕ × ℕ)
links_of n [] = []
links_of n (e ∷ es) = if e.0 == n then (e.1, e.2) ∷ links_of n es else links_of n es

-- the gaps of it that may be left open, by the tracks
abbrev pub opens_of : ℕ → List (ℕ × ℕ) → List ℕ
opens_of n [] = []
opens_of n (t ∷ ts) = if t.1 == n then t.0 ∷ opens_of n ts else opens_of n ts

-- the strings at its gaps, by the labels
abbrev pub sayings_of : ℕ → List ((ℕ × ℕ) × StrSet) → List (ℕ × StrSet)
sayings_of n [] = []
sayings_of n (l ∷ ls) = if l.0.0 == n then (l.0.1, l.1) ∷ sayings_of n ls else sayings_of n ls

abbrev pub gaps_of : List (ℕ × StrSet) → List ℕ
gaps_of [] = []
gaps_of (l ∷ ls) = l.0 ∷ gaps_of ls

abbrev pub wordy_of : List (List ℕ) → List (ℕ × StrSet) → List ℕ
wordy_of literals [] = []
wordy_of literals (l ∷ ls) = if blank literals l.1 then wordy_of literals ls else l.0 ∷ wordy_of literals ls

-- what two nodes say
abbrev pub grown : Node → Node → Node
grown a b = record { links = a.links ++ b.links; open_gaps = a.open_gaps ++ b.open_gaps; said = a.said ++ b.said; wordy = a.wordy ++ b.wordy }

-- what edges say of template n; what tracks do; what labels do
abbrev pub link_part : List (ℕ × ℕ × ℕ) → ℕ → Node
link_part edges n = record { links = links_of n edges; open_gaps = []; said = []; wordy = [] }

abbrev pub open_part : List (ℕ × ℕ) → ℕ → Node
open_part tracks n = record { links = []; open_gaps = opens_of n tracks; said = []; wordy = [] }

abbrev pub said_part : List (List ℕ) → List ((ℕ × ℕ) × StrSet) → ℕ → Node
said_part literals labels n = record { links = []; open_gaps = []; said = gaps_of (sayings_of n labels); wordy = wordy_of literals (sayings_of n labels) }

-- each value of a list has become more
pub record Grows {T : Type 0} (op : T → T → T) (d : T) (old new : List T) (more : ℕ → T) : Type 0 where
  pub len : length new ≡ length old
  pub each : (n : ℕ) → n < length old → slice_index_or new n d ≡ op (slice_index_or old n d) (more n)

abbrev pub GrowsNodes : List Node → List Node → (ℕ → Node) → Type 0
GrowsNodes old new more = Grows grown no_node old new more

abbrev pub GrowsSaid : List (List (ℕ × StrSet)) → List (List (ℕ × StrSet)) → (ℕ → List (ℕ × StrSet)) → Type 0
GrowsSaid old new more = Grows (λ a b. a ++ b) [] old new more
