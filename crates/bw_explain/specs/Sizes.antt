-- The sizes of documents, and the least ones.
use Rattle.std.specs.Prelude.{ℕ, ◌+◌, ◌≤◌, min, max, Bool, true, false, ◌||◌, List, [], ◌∷◌, length, if◌then◌else◌}
use Rattle.std.specs.List.{list_all}
use Rattle.bw_lang.specs.declared.items.Attr.{Attr}
use Rattle.bw_lang.specs.declared.items.AttrValue.{AttrValue}
use Rattle.bw_lang.specs.declared.items.AttrValue.TheVariants.{Fixed, Hole}
use Rattle.bw_lang.specs.Document.Forest.{Forest, none, text, gap, element}
use Rattle.bw_explain.specs.declared.sizes.TheConstants.{PAST, NONE}
use Rattle.bw_explain.specs.Ways.{Way, way_of}

-- the number of items and attributes at all levels
abbrev pub size : Forest → ℕ
size none = 0
size (text s r) = 1 + size r
size (gap g r) = 1 + size r
size (element tag a i r) = 1 + length a + size i + size r

-- PAST stands for each size over MAX_SIZE
abbrev pub capped : ℕ → ℕ
capped s = min s PAST

-- a document of at most that size, capped
abbrev pub Found : (Forest → Type 0) → ℕ → Type 0
Found Has v = (d : Forest) × Has d × (capped (size d) ≤ v)

-- v is the least size, capped, of what there is: NONE where there is nothing
pub record IsLeast (Has : Forest → Type 0) (v : ℕ) : Type 0 where
  pub low : (d : Forest) → Has d → v ≤ capped (size d)
  pub high : v ≤ PAST → Found Has v

-- the sum of such sizes
abbrev pub plus : ℕ → ℕ → ℕ
plus a b = max (min (a + b) PAST) (max a b)

-- the size where it may be
abbrev pub if_so : Bool → ℕ → ℕ
if_so b v = if b then v else NONE

-- the least of the sizes that are known of these templates
abbrev pub least_of : (ℕ → ℕ) → List ℕ → ℕ
least_of known [] = NONE
least_of known (m ∷ ms) = min (known m) (least_of known ms)

-- there is a word
abbrev pub some_word : List (List ℕ) → Bool
some_word [] = false
some_word (w ∷ ws) = true

-- a string may fill the gap
abbrev pub is_said : Way → Bool
is_said w = w.is_free || some_word w.words

-- the gap may be left open or filled by a string
abbrev pub is_loose : Way → Bool
is_loose w = w.is_open || is_said w

-- the value can stand: it is fixed, or its gap may be left open or filled
abbrev pub may_fill : List Way → AttrValue → Bool
may_fill ways (Fixed s) = true
may_fill ways (Hole g) = is_loose (way_of ways g)

-- the number of attributes, where all can stand
abbrev pub attrs_least : List Way → List Attr → ℕ
attrs_least ways a = if_so (list_all (λ x. may_fill ways x.value) a) (capped (length a))
