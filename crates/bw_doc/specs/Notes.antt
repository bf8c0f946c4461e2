-- The open gaps of a constant, one by one.
use Rattle.std.specs.Prelude.{ℕ, ◌+◌, ◌<◌, ◌^◌, ◌==◌, List, [], ◌∷◌, ◌++◌, flat_map, Some}
use Rattle.bw_lang.specs.declared.items.Attr.{Attr}
use Rattle.bw_lang.specs.declared.items.AttrValue.{AttrValue}
use Rattle.bw_lang.specs.declared.items.AttrValue.TheVariants.{Fixed, Hole}
use Rattle.bw_lang.specs.Document.Forest.{Forest, none, text, gap, element}
use Rattle.bw_doc.specs.declared.notes.Note.{Note}
use Rattle.bw_doc.specs.declared.spots.Open.{Open}
use Rattle.bw_doc.specs.declared.spots.Spot.{Spot}
use Rattle.bw_doc.specs.Spots.{nowhere, closed, both, only}

-- once, inside so many elements
abbrev pub level : ℕ → Spot
level n = record { count = 1; depth = Some n }

-- one content gap
abbrev pub content_at : ℕ → Open
content_at n = record { content = level n; hole = nowhere }

-- one attribute gap
abbrev pub hole_at : ℕ → Open
hole_at n = record { content = nowhere; hole = level n }

-- of an attribute's value, with n elements around it, its own among them
abbrev pub value_notes : ℕ → AttrValue → List Note
value_notes n (Fixed v) = []
value_notes n (Hole g) = record { gap = g; says = hole_at n } ∷ []

abbrev pub attr_notes : ℕ → List Attr → List Note
attr_notes n attrs = flat_map (λ a. value_notes n a.value) attrs

-- of items inside n elements
abbrev pub notes : ℕ → Forest → List Note
notes n none = []
notes n (text s rest) = notes n rest
notes n (gap g rest) = record { gap = g; says = content_at n } ∷ notes n rest
notes n (element tag attrs inner rest) = attr_notes (n + 1) attrs ++ (notes (n + 1) inner ++ notes n rest)

-- what the notes say of the gap g
abbrev pub all_noted : ℕ → List Note → Open
all_noted g [] = closed
all_noted g (x ∷ xs) = both (only (x.gap == g) x.says) (all_noted g xs)

-- the counts fit their types
pub record IsCounted (o : Open) : Type 0 where
  pub content : o.content.count < 2 ^ 32
  pub hole : o.hole.count < 2 ^ 32

-- so do those of every gap
abbrev pub AreFew : List Note → Type 0
AreFew xs = (g : ℕ) → IsCounted (all_noted g xs)
