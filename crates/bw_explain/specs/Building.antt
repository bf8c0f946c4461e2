-- The ways of the gaps of a template, by what a page graph says of it.
use Rattle.std.specs.Prelude.{ℕ, ◌==◌, Bool, true, false, ◌&&◌, List, [], ◌∷◌, ◌++◌, map, if◌then◌else◌, ◌≡◌, ◌||◌, length, slice_index_or}
use Rattle.std.specs.List.{list_any, All}
use Rattle.bw_strings.specs.declared.strings.StrSet.{StrSet}
use Rattle.bw_strings.specs.declared.strings.StrSet.TheVariants.{Any, Of}
use Rattle.bw_strings.specs.Asking.{text_of}
use Rattle.bw_shape.specs.Nodes.Nodes.{Node, among, node_at}
use Rattle.bw_explain.specs.Ways.{Way, ways_at}

-- each string is in the set
abbrev pub is_any : StrSet → Bool
is_any Any = true
is_any (Of ns) = false

-- the literals of a set
abbrev pub texts_of : List (List ℕ) → StrSet → List (List ℕ)
texts_of literals Any = []
texts_of literals (Of ns) = map (text_of literals) ns

-- any string may fill the gap
abbrev pub free_at : ℕ → List (ℕ × StrSet) → Bool
free_at g said = list_any (λ l. (l.0 == g) && is_any l.1) said

-- the words that may fill it
abbrev pub words_at : List (List ℕ) → ℕ → List (ℕ × StrSet) → List (List ℕ)
words_at literals g [] = []
words_at literals g (l ∷ ls) = (if l.0 == g then texts_of literals l.1 else []) ++ words_at literals g ls

-- the templates that may stand at it
abbrev pub led_at : ℕ → List (ℕ × ℕ) → List ℕ
led_at g [] = []
led_at g (l ∷ ls) = (if l.0 == g then l.1 ∷ [] else []) ++ led_at g ls

-- what may stand at a gap
abbrev pub way_for : List (List ℕ) → Node → List (ℕ × StrSet) → ℕ → Way
way_for literals node said g = record {
  at = g;
  is_open = among node.open_gaps g;
  is_free = free_at g said;
  words = words_at literals g said;
  led = led_at g
      node.links;
}

-- the gap has a way
abbrev pub has_way : List Way → ℕ → Bool
has_way ways g = list_any (λ w. w.at == g) ways

-- the way of a gap of template n
abbrev pub made : List (List ℕ) → List Node → List (List (ℕ × StrSet)) → ℕ → ℕ → Way
made literals nodes said n g = way_for literals (node_at nodes n) (slice_index_or said n []) g

-- each way of each template is that of its gap
abbrev pub AreMade : List (List ℕ) → List Node → List (List (ℕ × StrSet)) → List (List Way) → Type 0
AreMade literals nodes said list = (n : ℕ) → All (λ w. w ≡ made literals nodes said n w.at) (ways_at list n)

-- gaps have ways where they had, and where a test says so
pub record HasMore (old new : List (List Way)) (test : ℕ → ℕ → Bool) : Type 0 where
  pub len : length new ≡ length old
  pub each : (m h : ℕ) → has_way (ways_at new m) h ≡ (has_way (ways_at old m) h || test m h)

-- the track is of gap g in template n
abbrev pub of_track : ℕ → ℕ → ℕ × ℕ → Bool
of_track m h t = (t.1 == m) && (t.0 == h)

-- the edge is of gap g in template n
abbrev pub of_edge : ℕ → ℕ → ℕ × ℕ × ℕ → Bool
of_edge m h e = (e.0 == m) && (e.1 == h)

-- the label is of gap g in template n
abbrev pub of_label : ℕ → ℕ → (ℕ × ℕ) × StrSet → Bool
of_label m h l = (l.0.0 == m) && (l.0.1 == h)
