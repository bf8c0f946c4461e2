-- The form of a page.
use Rattle.std.specs.Prelude.{ℕ, Bool, ◌&&◌, if◌then◌else◌, List, codes, Option, Some, None}
use Rattle.std.specs.Option.{option_or}
use Rattle.bw_lang.specs.declared.items.Attr.{Attr}
use Rattle.bw_lang.specs.declared.items.Element.{Element}
use Rattle.bw_lang.specs.Document.Forest.{Forest, none, text, gap, element}
use Rattle.bw_lang.specs.Table.Names.{same}
use Rattle.bw_agent.specs.Controls.{has}

-- a form that leads somewhere: an element `form` with an action
abbrev pub is_form : List ℕ → List Attr → Bool
is_form tag attrs = same tag (codes "form") && has (codes "action") attrs

-- the first of them among the items, at all levels, in pre-order
abbrev pub form_in : Forest → Option Element
form_in none = None
form_in (text s rest) = form_in rest
form_in (gap g rest) = form_in rest
form_in (element tag attrs inner rest) =
    if is_form tag attrs then Some (record { tag = tag; attrs = attrs; items = inner }) else option_or (form_in inner) (form_in rest)
