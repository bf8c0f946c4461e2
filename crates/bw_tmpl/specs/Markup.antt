-- Items that are markup: what reading makes, plugging and closing keep, and printing can be read back from.
use Rattle.std.specs.Prelude.{◌≡◌, ℕ, true, false, List, [], ◌∷◌, map, IsUtf8}
use Rattle.bw_lang.specs.declared.items.Attr.{Attr}
use Rattle.bw_lang.specs.declared.items.AttrValue.{AttrValue}
use Rattle.bw_lang.specs.declared.items.AttrValue.TheVariants as value
use Rattle.bw_lang.specs.Document.Forest.{Forest, none, text, gap, element}
use Rattle.bw_lang.specs.Template.Markup.{is_void}
use Rattle.bw_lang.specs.declared.pieces.NameClass.TheVariants as class
use Rattle.bw_lang.specs.Template.RepeatedAttributes.{repeated}
use Rattle.bw_lang.specs.Template.Pieces.{IsNameOf}

-- Here and below Gap says whether a gap may be open.
-- a fixed value is UTF-8
abbrev pub IsValueOf : Type 0 → AttrValue → Type 0
IsValueOf Gap (value.Fixed v) = IsUtf8 v
IsValueOf Gap (value.Hole g) = Gap

-- attributes with names and values as they can be written
abbrev pub AreAttrs : Type 0 → List Attr → Type 0
AreAttrs Gap [] = Unit {0}
AreAttrs Gap (a ∷ attrs) = IsNameOf class.Attr a.name × IsValueOf Gap a.value × AreAttrs Gap attrs

-- the names of attributes
abbrev pub names_of : List Attr → List (List ℕ)
names_of attrs = map (λ a. a.name) attrs

-- Texts are UTF-8, names are names, no element names an attribute twice, and an element that has no end tag has no items.
abbrev pub MarkupWith : Type 0 → Forest → Type 0
MarkupWith Gap none = Unit {0}
MarkupWith Gap (text s f) = IsUtf8 s × MarkupWith Gap f
MarkupWith Gap (gap g f) = Gap × MarkupWith Gap f
MarkupWith Gap (element tag attrs inner f) =
    IsNameOf class.Tag tag × AreAttrs Gap attrs × (repeated (names_of attrs) ≡ false) × (is_void tag ≡ true → inner ≡ none) × MarkupWith Gap inner
    × MarkupWith Gap f

-- markup that may have open gaps
abbrev pub IsMarkup : Forest → Type 0
IsMarkup f = MarkupWith (Unit {0}) f

-- markup without open gaps
abbrev pub IsClosedMarkup : Forest → Type 0
IsClosedMarkup f = MarkupWith ⊥ f
