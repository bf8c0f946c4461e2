-- The controls of documents and the kinds of their fields (HTML 4.01, section 17). An open gap counts as an absent
-- attribute.
use Rattle.std.specs.Prelude.{ℕ, Bool, ◌||◌, if◌then◌else◌, List, [], ◌∷◌, ◌++◌, codes, Option, Some, None}
use Rattle.std.specs.Option.{option_to_list}
use Rattle.bw_lang.specs.declared.items.Attr.{Attr}
use Rattle.bw_lang.specs.declared.items.AttrValue.{AttrValue}
use Rattle.bw_lang.specs.declared.items.AttrValue.TheVariants.{Fixed, Hole}
use Rattle.bw_lang.specs.declared.controls.FieldKind.{FieldKind}
use Rattle.bw_lang.specs.declared.controls.FieldKind.TheVariants.{Single, Choice, Many}
use Rattle.bw_lang.specs.Document.Forest.{Forest, none, text, gap, element}
use Rattle.bw_lang.specs.Table.Names.{same}

-- the text of a fixed value
abbrev pub fixed_value : AttrValue → Option (List ℕ)
fixed_value (Fixed v) = Some v
fixed_value (Hole g) = None

-- the fixed value of the first attribute of that name
abbrev pub fixed : List ℕ → List Attr → Option (List ℕ)
fixed name [] = None
fixed name (a ∷ attrs) = if same a.name name then fixed_value a.value else fixed name attrs

-- the elements that are controls where they have a name
abbrev pub is_control : List ℕ → Bool
is_control tag = same tag (codes "input") || (same tag (codes "textarea") || same tag (codes "select"))

-- the text, unless it is empty or isn't there
abbrev pub unless_empty : Option (List ℕ) → Option (List ℕ)
unless_empty None = None
unless_empty (Some []) = None
unless_empty (Some (b ∷ s)) = Some (b ∷ s)

-- the name of the control that the element is
abbrev pub control_name : List ℕ → List Attr → Option (List ℕ)
control_name tag attrs = if is_control tag then unless_empty (fixed (codes "name") attrs) else None

-- the kind of the field of an input of this type
abbrev pub type_kind : List ℕ → Option FieldKind
type_kind t =
    if same t (codes "text") || (same t (codes "password") || same t (codes "hidden")) then Some Single else
    if same t (codes "radio") || same t (codes "submit") then Some Choice else
    if same t (codes "checkbox") then Some Many else None

-- an input without a type is a line of text
abbrev pub input_kind : Option (List ℕ) → Option FieldKind
input_kind None = Some Single
input_kind (Some t) = type_kind t

-- a select takes one choice, or with the attribute `multiple` many
abbrev pub select_kind : Option (List ℕ) → FieldKind
select_kind None = Single
select_kind (Some v) = Many

-- the kind of the field of a control, by its tag and its attributes
abbrev pub kind_of_control : List ℕ → List Attr → Option FieldKind
kind_of_control tag attrs =
    if same tag (codes "input") then input_kind (fixed (codes "type") attrs) else
    if same tag (codes "select") then Some (select_kind (fixed (codes "multiple") attrs)) else Some Single

-- the kind, where there is a name
abbrev pub if_named : Option (List ℕ) → Option FieldKind → Option FieldKind
if_named None k = None
if_named (Some n) k = k

-- the kind of the field that the element is a control of
abbrev pub field_kind : List ℕ → List Attr → Option FieldKind
field_kind tag attrs = if_named (control_name tag attrs) (kind_of_control tag attrs)

-- the names of all controls in pre-order, those of reset and button inputs too
abbrev pub control_names : Forest → List (List ℕ)
control_names none = []
control_names (text s rest) = control_names rest
control_names (gap g rest) = control_names rest
control_names (element tag attrs inner rest) = option_to_list (control_name tag attrs) ++ (control_names inner ++ control_names rest)

-- a name with a kind, where both are there
abbrev pub named_kind : Option (List ℕ) → Option FieldKind → List (List ℕ × FieldKind)
named_kind None k = []
named_kind (Some n) None = []
named_kind (Some n) (Some k) = (n, k) ∷ []

-- the field that the element is a control of
abbrev pub field_of : List ℕ → List Attr → List (List ℕ × FieldKind)
field_of tag attrs = named_kind (control_name tag attrs) (field_kind tag attrs)

-- the names and kinds of the fields of all controls in pre-order
abbrev pub fields : Forest → List (List ℕ × FieldKind)
fields none = []
fields (text s rest) = fields rest
fields (gap g rest) = fields rest
fields (element tag attrs inner rest) = field_of tag attrs ++ (fields inner ++ fields rest)
