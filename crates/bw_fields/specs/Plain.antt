-- Documents in which what makes a control is no gap.
use Rattle.std.specs.Prelude.{◌≡◌, ℕ, ◌+◌, Bool, true, false, ◌||◌, ◌&&◌, not, List, [], ◌∷◌, codes}
use Rattle.bw_lang.specs.declared.items.Attr.{Attr}
use Rattle.bw_lang.specs.declared.items.AttrValue.{AttrValue}
use Rattle.bw_lang.specs.declared.items.AttrValue.TheVariants.{Fixed, Hole}
use Rattle.bw_lang.specs.Template.Controls.{is_control}
use Rattle.bw_lang.specs.Document.Documents.{one_if}
use Rattle.bw_lang.specs.Document.Forest.{Forest, none, text, gap, element}
use Rattle.bw_lang.specs.Table.Names.{same}
use Rattle.bw_shape.specs.Tests.{is_field}

abbrev pub is_fixed : AttrValue → Bool
is_fixed (Fixed v) = true
is_fixed (Hole g) = false

-- no attribute of that name is a gap
abbrev pub is_given : List ℕ → List Attr → Bool
is_given x [] = true
is_given x (a ∷ attrs) = (not (same a.name x) || is_fixed a.value) && is_given x attrs

-- the attributes that make a control are no gaps
abbrev pub is_plain : List ℕ → List Attr → Bool
is_plain tag attrs =
    not (is_control tag) || (is_given (codes "name") attrs && (is_given (codes "type") attrs && is_given (codes "multiple") attrs))

abbrev pub ArePlain : Forest → Type 0
ArePlain none = Unit {0}
ArePlain (text s rest) = ArePlain rest
ArePlain (gap g rest) = ArePlain rest
ArePlain (element tag attrs inner rest) = (is_plain tag attrs ≡ true) × (ArePlain inner × ArePlain rest)

-- how many controls of the field there are
abbrev pub controls : List (List ℕ) → ℕ → Forest → ℕ
controls names f none = 0
controls names f (text s rest) = controls names f rest
controls names f (gap g rest) = controls names f rest
controls names f (element tag attrs inner rest) = one_if (is_field names f tag attrs) + (controls names f inner + controls names f rest)
