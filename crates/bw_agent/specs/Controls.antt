-- The controls of a form, and what each of them may send (HTML 4.01, sections 17.2 to 17.7).
use Rattle.std.specs.Prelude.{ℕ, Bool, true, ◌||◌, if◌then◌else◌, List, [], ◌∷◌, ◌++◌, codes, Option, Some, None, is_some, unwrap_or}
use Rattle.bw_lang.specs.declared.controls.FieldKind.{FieldKind}
use Rattle.bw_lang.specs.declared.items.Attr.{Attr}
use Rattle.bw_lang.specs.Document.Forest.{Forest, none, text, gap, element}
use Rattle.bw_lang.specs.Table.Names.{same}
use Rattle.bw_lang.specs.Template.Controls.{fixed, control_name, field_kind}
use Rattle.bw_agent.specs.declared.control.Control.{Control}
use Rattle.bw_agent.specs.declared.control.Offer.{Offer}

-- all text among the items, at all levels, in order
abbrev pub text_in : Forest → List ℕ
text_in none = []
text_in (text s rest) = s ++ text_in rest
text_in (gap g rest) = text_in rest
text_in (element tag attrs inner rest) = text_in inner ++ text_in rest

-- there is an attribute of that name
abbrev pub has : List ℕ → List Attr → Bool
has name attrs = is_some (fixed name attrs)

-- the value of the attribute of that name, or another text where there is none
abbrev pub value_or : List ℕ → List ℕ → List Attr → List ℕ
value_or name other attrs = unwrap_or (fixed name attrs) other

-- an option may send its value, or its text where it has none
abbrev pub option_of : List ℕ → List Attr → Forest → List Offer
option_of tag attrs inner =
    if same tag (codes "option") then record { value = value_or (codes "value") (text_in inner) attrs; chosen = has (codes "selected") attrs } ∷ [] else []

-- the options among the items, at all levels, in pre-order
abbrev pub options : Forest → List Offer
options none = []
options (text s rest) = options rest
options (gap g rest) = options rest
options (element tag attrs inner rest) = option_of tag attrs inner ++ (options inner ++ options rest)

-- where an input has no value, a radio button and a check box send `on`, and each other type the empty text
abbrev pub value_of_type : Option (List ℕ) → List ℕ
value_of_type None = []
value_of_type (Some t) = if same t (codes "radio") || same t (codes "checkbox") then codes "on" else []

-- an input may send its value, or that of its type where it has none
abbrev pub input_offer : List Attr → Offer
input_offer attrs = record { value = value_or (codes "value") (value_of_type (fixed (codes "type") attrs)) attrs; chosen = has (codes "checked") attrs }

-- a text area sends its text
abbrev pub area_offer : Forest → Offer
area_offer inner = record { value = text_in inner; chosen = true }

-- what a control may send
abbrev pub offers_of : List ℕ → List Attr → Forest → List Offer
offers_of tag attrs inner =
    if same tag (codes "input") then input_offer attrs ∷ [] else
    if same tag (codes "select") then options inner else area_offer inner ∷ []

-- a control, where there are a name and a kind
abbrev pub named_control : Option (List ℕ) → Option FieldKind → List Offer → List Control
named_control None kind offers = []
named_control (Some name) None offers = []
named_control (Some name) (Some kind) offers = record { name = name; kind = kind; offers = offers } ∷ []

-- the control with a field that the element is
abbrev pub control_of : List ℕ → List Attr → Forest → List Control
control_of tag attrs inner = named_control (control_name tag attrs) (field_kind tag attrs) (offers_of tag attrs inner)

-- the controls among the items that have a field, at all levels, in pre-order
abbrev pub controls : Forest → List Control
controls none = []
controls (text s rest) = controls rest
controls (gap g rest) = controls rest
controls (element tag attrs inner rest) = control_of tag attrs inner ++ (controls inner ++ controls rest)
