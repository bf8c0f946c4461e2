-- Laws of lists of fields.
use Rattle.std.proofs.Common.{◌≡◌, ℕ, ◌+◌, ◌<◌, List, ◌++◌, length, get_or, take, refl, ap, ◌∙◌}
use Rattle.std.proofs.lemmas.List.{append_assoc, append-nil}
use Rattle.bw_lang.specs.declared.items.Item.{Item}
use Rattle.bw_lang.specs.Document.Forest.{none}
use Rattle.bw_lang.specs.Document.View.{forest, before}
use Rattle.bw_lang.specs.Template.Controls.{fields}
use Rattle.bw_lang.proofs.FieldSteps.{fields-append}
use Rattle.bw_lang.proofs.Forests.{forest_at_read, size_at_read}

-- one item more
pub fields_at_read : (xs : List Item) (i : ℕ) (d : Item) → i < length xs → (get_or xs i d ≡ get_or xs i d)
    × (fields (forest (take (i + 1) xs)) ≡ fields (forest (take i xs)) ++ fields (before (get_or xs i d) none))
fields_at_read xs i d h = (refl, ap fields (forest_at_read xs i d h).1 ∙ fields-append (forest (take i xs)) (before (get_or xs i d) none))

pub ruleset field_steps = (append-nil, append_assoc, size_at_read, fields_at_read)
