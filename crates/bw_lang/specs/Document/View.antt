-- A list of items as a forest.
use Rattle.std.specs.Prelude.{List, [], ◌∷◌}
use Rattle.bw_lang.specs.declared.items.Item.{Item}
use Rattle.bw_lang.specs.declared.items.Item.TheVariants.{Text, Element, Gap}
use Rattle.bw_lang.specs.Document.Forest.{Forest, none, text, gap, element}

-- the item, and then the forest
abbrev pub before : Item → Forest → Forest
before (Text s) rest = text s rest
before (Element e) rest = element e.tag e.attrs e.items rest
before (Gap g) rest = gap g rest

abbrev pub forest : List Item → Forest
forest [] = none
forest (item ∷ items) = before item (forest items)

-- the list of items that a forest is
abbrev pub items_of : Forest → List Item
items_of none = []
items_of (text s rest) = Text s ∷ items_of rest
items_of (gap g rest) = Gap g ∷ items_of rest
items_of (element tag attrs inner rest) = Element (record { tag = tag; attrs = attrs; items = inner }) ∷ items_of rest
