-- Nodes, and the strings at gaps, that say what a graph says.
use Rattle.std.specs.Prelude.{◌≡◌, ℕ, true, false, ◌==◌, ◌&&◌, List, [], slice_index_or}
use Rattle.std.specs.List.{list_any}
use Rattle.bw_strings.specs.declared.strings.StrSet.{StrSet}
use Rattle.bw_lang.specs.Text.Bytes.{is_blank_text}
use Rattle.bw_strings.specs.Asking.{has_string}
use Rattle.bw_sum.specs.Graph.{Graph}
use Rattle.bw_shape.specs.Nodes.Nodes.{Node, node_at, among}

-- the nodes say what the graph says: its edges, its tracks, and at which gaps some string, and one that isn't blank, may stand
pub record Fits (nodes : List Node) (G : Graph) : Type 0 where
  pub edges : (n g m : ℕ) → list_any (λ l. (l.0 == g) && (l.1 == m)) (node_at nodes n).links ≡ G.edge n g m
  pub tracks : (n g : ℕ) → among (node_at nodes n).open_gaps g ≡ G.track g n
  pub said : (n g : ℕ) → among (node_at nodes n).said g ≡ true → (s : List ℕ) × (G.label n g s ≡ true)
  pub saying : (n g : ℕ) (s : List ℕ) → G.label n g s ≡ true → among (node_at nodes n).said g ≡ true
  pub wordy : (n g : ℕ) → among (node_at nodes n).wordy g ≡ true → (s : List ℕ) × (G.label n g s ≡ true) × (is_blank_text s ≡ false)
  pub wording : (n g : ℕ) (s : List ℕ) → G.label n g s ≡ true → is_blank_text s ≡ false → among (node_at nodes n).wordy g ≡ true

-- the strings at the gaps are those of the graph
abbrev pub AreStrings : List (List (ℕ × StrSet)) → List (List ℕ) → Graph → Type 0
AreStrings said literals G =
    (n g : ℕ) (w : List ℕ) → G.label n g w ≡ list_any (λ l. (l.0 == g) && has_string literals l.1 w) (slice_index_or said n [])
