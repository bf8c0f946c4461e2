-- The faults of a page graph.
use Rattle.std.specs.Prelude.{◌≡◌, ◌⊎◌, ℕ, ◌+◌, Bool, true, false, List, Some, codes}
use Rattle.std.specs.List.{Contains}
use Rattle.bw_lang.specs.declared.items.Attr.{Attr}
use Rattle.bw_lang.specs.declared.items.AttrValue.{AttrValue}
use Rattle.bw_lang.specs.declared.items.AttrValue.TheVariants.{Fixed, Hole}
use Rattle.bw_lang.specs.Document.Forest.{Forest, none, text, gap, element}
use Rattle.bw_lang.specs.Document.Documents.{elements}
use Rattle.bw_lang.specs.Table.Names.{same}
use Rattle.bw_schema.specs.declared.rules.Rule.{Rule}
use Rattle.bw_schema.specs.declared.schema.Schema.{Schema}
use Rattle.bw_schema.specs.Words.{is_among}
use Rattle.bw_schema.specs.Rules.{allows, permits, rule_of}
use Rattle.bw_schema.specs.Needs.{Needs, nothing, all_of, some_of, attr, one_value, content, order}
use Rattle.bw_faults.specs.declared.fault.Fault.{Fault}
use Rattle.bw_sum.specs.Graph.{Graph}
use Rattle.bw_shape.specs.Shape.{Reached, Gives, Misses, Crossing, tagged, wordy}
use Rattle.bw_judge.specs.Scene.{has_attr}

-- the element at a place in pre-order, from 1
pub data At : Forest → ℕ → List ℕ → List Attr → Forest → Type 0 where
  here : {tag : List ℕ} {a : List Attr} {i r : Forest} → At (element tag a i r) 1 tag a i
  inside : {t : List ℕ} {b : List Attr} {i r : Forest} {k : ℕ} {tag : List ℕ} {a : List Attr} {j : Forest}
      → At i k tag a j → At (element t b i r) (1 + k) tag a j
  after_element : {t : List ℕ} {b : List Attr} {i r : Forest} {k : ℕ} {tag : List ℕ} {a : List Attr} {j : Forest} → At r k tag a j
      → At (element t b i r) (1 + elements i + k) tag a j
  after_text : {s : List ℕ} {r : Forest} {k : ℕ} {tag : List ℕ} {a : List Attr} {j : Forest} → At r k tag a j → At (text s r) k tag a j
  after_gap : {g : ℕ} {r : Forest} {k : ℕ} {tag : List ℕ} {a : List Attr} {j : Forest} → At r k tag a j → At (gap g r) k tag a j

-- an attribute's value of template n may be this string
pub data MayBe (G : Graph) (n : ℕ) : AttrValue → List ℕ → Type 0 where
  fixed : {v : List ℕ} → MayBe G n (Fixed v) v
  said : {g : ℕ} {v : List ℕ} → G.label n g v ≡ true → MayBe G n (Hole g) v

-- the attribute can't be left out
abbrev pub IsSureValue : Graph → ℕ → AttrValue → Type 0
IsSureValue G n (Fixed v) = Unit {0}
IsSureValue G n (Hole g) = G.track g n ≡ false

abbrev pub SureAttr : Graph → ℕ → List Attr → List ℕ → Type 0
SureAttr G n attrs x = (a : Attr) × Contains attrs a × (same a.name x ≡ true) × IsSureValue G n a.value

abbrev pub SureOne : Graph → ℕ → List Attr → List ℕ → List (List ℕ) → Type 0
SureOne G n attrs x vs = (a : Attr) × Contains attrs a × (same a.name x ≡ true) × IsSureValue G n a.value
    × ((v : List ℕ) → MayBe G n a.value v → is_among vs v ≡ true)

-- with true both, with false one of them
abbrev pub Both : Bool → Type 0 → Type 0 → Type 0
Both true P Q = P × Q
Both false P Q = P ⊎ Q

abbrev pub Ends : Bool → Type 0
Ends true = Unit {0}
Ends false = ⊥

-- with true all of the needs are sure at an element of template n, with false some of them
abbrev pub Sure : (ℕ → Forest) → Graph → ℕ → List Attr → Forest → Bool → Needs → Type 0
Sure templates G n attrs inner b nothing = Ends b
Sure templates G n attrs inner b (all_of parts rest) = Both b (Sure templates G n attrs inner true parts) (Sure templates G n attrs inner b rest)
Sure templates G n attrs inner b (some_of parts rest) = Both b (Sure templates G n attrs inner false parts) (Sure templates G n attrs inner b rest)
Sure templates G n attrs inner b (attr x rest) = Both b (SureAttr G n attrs x) (Sure templates G n attrs inner b rest)
Sure templates G n attrs inner b (one_value x vs rest) = Both b (SureOne G n attrs x vs) (Sure templates G n attrs inner b rest)
Sure templates G n attrs inner b (content x rest) = Both b (Misses templates G x n inner → ⊥) (Sure templates G n attrs inner b rest)
Sure templates G n attrs inner b (order x y rest) = Both b (Crossing templates G x y n inner → ⊥) (Sure templates G n attrs inner b rest)

-- the number and the detail of what an element of template n may break
pub data Breaks (templates : ℕ → Forest) (G : Graph) (n : ℕ) (r : Rule) (tag : List ℕ) (attrs : List Attr) (inner : Forest) : ℕ → List ℕ → Type 0 where
  attribute : {a : Attr} {v : List ℕ} → Contains attrs a → MayBe G n a.value v → allows r a.name ≡ false → Breaks templates G n r tag attrs inner 1 a.name
  absent : {x : List ℕ} → Contains r.must x → has_attr attrs x ≡ false → Breaks templates G n r tag attrs inner 2 x
  unsure : {x : List ℕ} {a : Attr} {g : ℕ} → Contains r.must x → Contains attrs a → same a.name x ≡ true → a.value ≡ Hole g → G.track g n ≡ true
      → Breaks templates G n r tag attrs inner 2 x
  value : {a : Attr} {v : List ℕ} → Contains attrs a → MayBe G n a.value v → permits r.values a.name v ≡ false → Breaks templates G n r tag attrs inner 3 a.name
  child : {x : List ℕ} → Gives templates G n inner (tagged x) → is_among r.has x ≡ false → Breaks templates G n r tag attrs inner 4 x
  words : Gives templates G n inner wordy → r.text ≡ false → Breaks templates G n r tag attrs inner 5 (codes "text")
  need : (Sure templates G n attrs inner true r.needs → ⊥) → Breaks templates G n r tag attrs inner 7 tag

-- that fault at a place of a template
abbrev pub fault_in : (point number template place : ℕ) → (detail : List ℕ) → Fault
fault_in point number n place detail = record { number = number; point = point; template = Some n; place = place; detail = detail }

-- the faults of the page graph of a point
pub data IsFault (templates : ℕ → Forest) (G : Graph) (root : ℕ) (s : Schema) (point : ℕ) : Fault → Type 0 where
  wrong_root : {tag : List ℕ} {a : List Attr} {i : Forest} → templates root ≡ element tag a i none → same tag s.root ≡ false
      → IsFault templates G root s point (fault_in point 6 root 1 tag)
  breaks : {n place number : ℕ} {detail tag : List ℕ} {a : List Attr} {i : Forest} {r : Rule} → Reached G root n
      → At (templates n) place tag a i → rule_of s.elements tag ≡ Some r
      → Breaks templates G n r tag a i number detail → IsFault templates G root s point (fault_in point number n place detail)
