-- Each child of a list of items is smaller than the list.
use Rattle.std.specs.Prelude.{◌≤◌, List, [], ◌∷◌}
use Rattle.std.proofs.Common.{arith}
use denote.Param.Weighed.{most}
use Rattle.bw_lang.specs.declared.items.Item.{Item}
use Rattle.bw_lang.specs.declared.items.Item.TheVariants.{Text, Element, Gap}
use Rattle.bw_lang.specs.declared.items.Items.TheDeep.{deep-Item}
use Rattle.bw_lang.specs.Document.Forest.{forest_size}
use Rattle.bw_lang.specs.Document.View.{forest}

pub most_le-forest_size : (items : List Item) → most (λ x. deep-Item x) items ≤ forest_size (forest items)
most_le-forest_size [] = omega arith
most_le-forest_size (Text s ∷ items) = omega (arith, most_le-forest_size items)
most_le-forest_size (Element e ∷ items) = omega (arith, most_le-forest_size items)
most_le-forest_size (Gap g ∷ items) = omega (arith, most_le-forest_size items)
