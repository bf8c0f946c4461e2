-- The tests of templates that fail, in source order. A gap and a field have the kinds of their first places in the
-- templates of the service.
use Rattle.std.specs.Prelude.{ℕ, Bool, true, false, not, ◌&&◌, ◌||◌, if◌then◌else◌, List, [], ◌∷◌, ◌++◌, flat_map, codes, Option, Some, None}
use Rattle.std.specs.List.{list_any}
use Rattle.bw_lang.specs.declared.items.Attr.{Attr}
use Rattle.bw_lang.specs.declared.items.AttrValue.{AttrValue}
use Rattle.bw_lang.specs.declared.items.AttrValue.TheVariants.{Fixed, Hole}
use Rattle.bw_lang.specs.declared.controls.FieldKind.{FieldKind}
use Rattle.bw_lang.specs.declared.controls.FieldKind.TheVariants.{Single, Choice, Many}
use Rattle.bw_lang.specs.declared.service.Service.{Service}
use Rattle.bw_lang.specs.Template.Controls.{fixed, is_control, field_of}
use Rattle.bw_lang.specs.Document.Documents.{is_open}
use Rattle.bw_lang.specs.Document.Forest.{Forest, none, text, gap, element}
use Rattle.bw_lang.specs.Table.Names.{same}
use Rattle.bw_types.specs.declared.fault.GapKind.{GapKind}
use Rattle.bw_types.specs.declared.fault.GapKind.TheVariants.{Content, Attribute}
use Rattle.bw_types.specs.declared.fault.TypeFault.{TypeFault}
use Rattle.bw_types.specs.declared.fault.TypeFault.TheVariants as faults
use Rattle.bw_types.specs.Fields.{kind_of_field}
use Rattle.bw_types.specs.Gaps.{kind_of_number, gap_name}
use Rattle.bw_types.specs.Scopes.{is_among}

-- the fault, where the test fails
abbrev pub fault_if : Bool → TypeFault → List TypeFault
fault_if fails fault = if fails then fault ∷ [] else []

-- there is a kind, and it is another one
abbrev pub is_other_gap_kind : Option GapKind → GapKind → Bool
is_other_gap_kind None kind = false
is_other_gap_kind (Some Content) Content = false
is_other_gap_kind (Some Content) Attribute = true
is_other_gap_kind (Some Attribute) Content = true
is_other_gap_kind (Some Attribute) Attribute = false

abbrev pub is_other_field_kind : Option FieldKind → FieldKind → Bool
is_other_field_kind None kind = false
is_other_field_kind (Some Single) Single = false
is_other_field_kind (Some Choice) Choice = false
is_other_field_kind (Some Many) Many = false
is_other_field_kind (Some other) kind = true

-- at a gap: its first place has another kind
abbrev pub gap_fault : Service → ℕ → GapKind → List TypeFault
gap_fault service g kind = fault_if (is_other_gap_kind (kind_of_number service g) kind) (faults.GapKinds (gap_name service.gaps g))

abbrev pub value_fault : Service → AttrValue → List TypeFault
value_fault service (Fixed v) = []
value_fault service (Hole g) = gap_fault service g Attribute

-- at the gaps of attributes, in their order
abbrev pub attr_faults : Service → List Attr → List TypeFault
attr_faults service attrs = flat_map (λ a. value_fault service a.value) attrs

-- at a control: the first control of its field has another kind
abbrev pub field_fault : Service → List ℕ × FieldKind → List TypeFault
field_fault service f = fault_if (is_other_field_kind (kind_of_field service f.0) f.1) (faults.FieldKinds f.0)

-- the elements that only the page around a template may have
abbrev pub is_reserved : List ℕ → Bool
is_reserved tag = is_among tag (codes "html" ∷ codes "head" ∷ codes "body" ∷ codes "form" ∷ [])

-- the fixed text is there and is none of these
abbrev pub is_none_of : Option (List ℕ) → List (List ℕ) → Bool
is_none_of None texts = false
is_none_of (Some t) texts = not (is_among t texts)

abbrev pub is_file : Option (List ℕ) → Bool
is_file None = false
is_file (Some t) = same t (codes "file")

-- an input whose fixed type is `file`
abbrev pub is_file_input : List ℕ → List Attr → Bool
is_file_input tag attrs = same tag (codes "input") && is_file (fixed (codes "type") attrs)

-- an attribute that may be no gap in a control, or that no control may have
abbrev pub is_bad_attr : Attr → Bool
is_bad_attr a =
    (is_open a.value && is_among a.name (codes "name" ∷ codes "type" ∷ codes "multiple" ∷ [])) || same a.name (codes "disabled")

-- the types of inputs that HTML 4.01 has for fields and buttons of a form
abbrev pub input_types : List (List ℕ)
input_types =
    codes "text" ∷ codes "password" ∷ codes "hidden" ∷ codes "radio" ∷ codes "submit" ∷ codes "checkbox" ∷ codes "reset" ∷ codes "button" ∷ []

-- an input whose fixed type is none of these
abbrev pub has_other_type : List ℕ → List Attr → Bool
has_other_type tag attrs = same tag (codes "input") && is_none_of (fixed (codes "type") attrs) input_types

abbrev pub is_bad_control : List ℕ → List Attr → Bool
is_bad_control tag attrs = is_control tag && (list_any is_bad_attr attrs || has_other_type tag attrs)

-- at an element of this template, in front of its items
abbrev pub element_faults : Service → List ℕ → List ℕ → List Attr → List TypeFault
element_faults service template tag attrs =
    fault_if (is_reserved tag) (faults.ReservedTag tag) ++ (fault_if (is_file_input tag attrs) (faults.FileInput template) ++
    (fault_if (is_bad_control tag attrs) (faults.BadControl template) ++ (flat_map (field_fault service) (field_of tag attrs) ++
    attr_faults service attrs)))

-- the tests of a template's items that fail
abbrev pub items_faults : Service → List ℕ → Forest → List TypeFault
items_faults service template none = []
items_faults service template (text s rest) = items_faults service template rest
items_faults service template (gap g rest) = gap_fault service g Content ++ items_faults service template rest
items_faults service template (element tag attrs inner rest) =
    element_faults service template tag attrs ++ (items_faults service template inner ++ items_faults service template rest)
