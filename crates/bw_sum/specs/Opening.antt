-- Which gaps of a document are open.
use Rattle.std.specs.Prelude.{ℕ, Bool, false, ◌||◌, ◌==◌, List}
use Rattle.std.specs.List.{list_any}
use Rattle.bw_lang.specs.declared.items.Attr.{Attr}
use Rattle.bw_lang.specs.Document.Documents.{is_hole}
use Rattle.bw_lang.specs.Document.Forest.{Forest, none, text, gap, element}

-- the gap is open in some attribute
abbrev pub holes : ℕ → List Attr → Bool
holes g attrs = list_any (λ a. is_hole g a.value) attrs

-- it is open in some attribute of some element
abbrev pub has_hole : ℕ → Forest → Bool
has_hole g none = false
has_hole g (text s rest) = has_hole g rest
has_hole g (gap h rest) = has_hole g rest
has_hole g (element tag attrs inner rest) = holes g attrs || (has_hole g inner || has_hole g rest)

-- it is open, in an attribute or between items
abbrev pub opens : ℕ → Forest → Bool
opens g none = false
opens g (text s rest) = opens g rest
opens g (gap h rest) = (h == g) || opens g rest
opens g (element tag attrs inner rest) = holes g attrs || (opens g inner || opens g rest)
