-- The measures of documents: weight, depth and nest. A document has them by how it was made.
use Rattle.std.specs.Prelude.{ℕ, suc, ◌+◌, ◌*◌, ◌≤◌, max, nat_lt, if◌then◌else◌, List, length, sum_by, Result, Ok, Err}
use Rattle.bw_lang.specs.declared.items.AttrValue.{AttrValue}
use Rattle.bw_lang.specs.declared.items.AttrValue.TheVariants.{Fixed, Hole}
use Rattle.bw_lang.specs.declared.measure.Measure.{Measure}
use Rattle.bw_lang.specs.declared.measure.MeasureFault.{MeasureFault}
use Rattle.bw_lang.specs.declared.measure.MeasureFault.TheVariants.{Heavy, Deep, Nested}
use Rattle.bw_lang.specs.declared.measure.TheConstants.{MAX_WEIGHT, MAX_DEPTH, MAX_NEST}
use Rattle.bw_lang.specs.Document.Forest.{Forest, none, text, gap, element}
use Rattle.bw_lang.specs.Document.Documents as doc

-- the bytes of a fixed value
abbrev pub value_bytes : AttrValue → ℕ
value_bytes (Fixed v) = length v
value_bytes (Hole h) = 0

-- 64 for each item and each attribute at every level, and the bytes of the texts and fixed values
abbrev pub items_weight : Forest → ℕ
items_weight none = 0
items_weight (text s rest) = 64 + length s + items_weight rest
items_weight (gap g rest) = 64 + items_weight rest
items_weight (element tag attrs inner rest) = 64 + sum_by (λ a. 64 + value_bytes a.value) attrs + items_weight inner + items_weight rest

-- the weight of a constant
abbrev pub constant_weight : Forest → ℕ
constant_weight d = 64 + items_weight d

-- the greatest number of elements that stand inside one another
abbrev pub nest : Forest → ℕ
nest none = 0
nest (text s rest) = nest rest
nest (gap g rest) = nest rest
nest (element tag attrs inner rest) = max (suc (nest inner)) (nest rest)

-- of a constant
abbrev pub constant_measure : Forest → Measure
constant_measure d = record { weight = constant_weight d; depth = 1; nest = nest d }

-- of a string of so many bytes, as it counts in a plug
abbrev pub text_measure : ℕ → Measure
text_measure bytes = record { weight = 16 + bytes; depth = 0; nest = 0 }

-- of b with a in its k open gaps of a name, one of which has `at` elements around it and none has more
abbrev pub plugged : Measure → Measure → ℕ → ℕ → Measure
plugged b a k at = record {
  weight = 64 + b.weight + k * a.weight;
  depth = 1 + max b.depth a.depth;
  nest = max b.nest (at + a.nest);
}

-- the limits of a document
pub record IsWithin (m : Measure) : Type 0 where
  pub weight : m.weight ≤ MAX_WEIGHT
  pub depth : m.depth ≤ MAX_DEPTH
  pub nest : m.nest ≤ MAX_NEST

-- the measure, or the first of weight, depth and nest that is over its limit
abbrev pub tested : Measure → Result Measure MeasureFault
tested m =
    if nat_lt MAX_WEIGHT m.weight then Err (Heavy m.weight) else
    if nat_lt MAX_DEPTH m.depth then Err (Deep m.depth) else
    if nat_lt MAX_NEST m.nest then Err (Nested m.nest) else Ok m

-- the forest is a document of this measure: a constant, or a document with its open gaps of a name filled by a
-- document or by a string
pub data IsDocument : Forest → Measure → Type 0 where
  constant : (t : Forest) → IsDocument t (constant_measure t)
  plug : (b a : Forest) (m n : Measure) (g : ℕ) → IsDocument b m → IsDocument a n → IsDocument (doc.plug g a b) (plugged m n (doc.count g b) (doc.around g b))
  fill : (b : Forest) (m : Measure) (g : ℕ) (s : List ℕ) → IsDocument b m
      → IsDocument (doc.plug_text g s b) (plugged m (text_measure (length s)) (doc.count g b) (doc.around g b))
