-- The faults of received fields, and what their absence means for each page.
use Rattle.std.specs.Prelude.{◌≡◌, ℕ, ◌<◌, Bool, true, false, ◌||◌, not, List, [], ◌∷◌, length, count_by, Option, Some, None}
use Rattle.std.specs.List.{list_all, list_any, Contains}
use Rattle.bw_faults.specs.declared.fault.Fault.{Fault}
use Rattle.bw_flow.specs.declared.point.Received.{Received}
use Rattle.bw_lang.specs.declared.controls.FieldKind.{FieldKind}
use Rattle.bw_lang.specs.declared.controls.FieldKind.TheVariants.{Single, Choice, Many}
use Rattle.bw_lang.specs.declared.service.Service.{Service}
use Rattle.bw_lang.specs.Template.Controls.{fields}
use Rattle.bw_lang.specs.Document.Forest.{Forest}
use Rattle.bw_lang.specs.Table.Names.{same, name_number, with_names}
use Rattle.bw_schema.specs.declared.schema.Schema.{Schema}
use Rattle.bw_sum.specs.Graph.{Graph}
use Rattle.bw_sum.specs.declared.summary.Summary.{Summary}
use Rattle.bw_types.specs.Fields.{field_names, kind_of_field}
use Rattle.bw_shape.specs.Outlines.{IsPageGraph, IsShape}
use Rattle.bw_shape.specs.Shape.{Lacks, Doubles}
use Rattle.bw_shape.specs.declared.outline.Outline.{Outline}
use Rattle.bw_fields.specs.Found.{is_misfit, fault_of}

-- the names of a service's fields, by their numbers
abbrev pub names_of : Service → List (List ℕ)
names_of service = with_names [] (field_names service)

-- the field has its number
abbrev pub IsReceived : Service → Received → Type 0
IsReceived service r = (name_number (names_of service) r.field ≡ r.id) × (r.id < length (names_of service))

-- the outline is the shape of the page graph of a show
abbrev pub IsShown : Service → Summary → Schema → Outline → Type 0
IsShown service page schema o = IsPageGraph service page × (page.roots ≡ length service.templates ∷ []) × IsShape service page schema o

-- a fault of a received field: the pages that unfold from the root may lack it; they may have it twice, and it takes one value; or its kind doesn't
-- fit its target
pub data IsFaultOf (templates : ℕ → Forest) (G : Graph) (root : ℕ) (service : Service) (point : ℕ) (r : Received) : Fault → Type 0 where
  missing : Lacks templates G (names_of service) r.id root (templates root) → IsFaultOf templates G root service point r (fault_of 8 point r.field)
  repeated : kind_of_field service r.field ≡ Some Single → Doubles templates G (names_of service) r.id root
      → IsFaultOf templates G root service point r (fault_of 9 point r.field)
  unfit : is_misfit (kind_of_field service r.field) r.kind ≡ true → IsFaultOf templates G root service point r (fault_of 10 point r.field)

-- of one of the received fields
abbrev pub IsFieldFault : (ℕ → Forest) → Graph → ℕ → Service → ℕ → List Received → Fault → Type 0
IsFieldFault templates G root service point received f =
    (r : Received) × Contains received r × IsFaultOf templates G root service point r f

-- the kind is the other one
abbrev pub is_kind : Option FieldKind → FieldKind → Bool
is_kind None k = false
is_kind (Some Single) Single = true
is_kind (Some Single) Choice = false
is_kind (Some Single) Many = false
is_kind (Some Choice) Single = false
is_kind (Some Choice) Choice = true
is_kind (Some Choice) Many = false
is_kind (Some Many) Single = false
is_kind (Some Many) Choice = false
is_kind (Some Many) Many = true

-- a field of that name has that kind
abbrev pub is_of_kind : List ℕ → Option FieldKind → List ℕ × FieldKind → Bool
is_of_kind name kind x = not (same x.0 name) || is_kind kind x.1

-- the page has the field, once where it takes one value, always of its kind; and the kind fits the target
pub record HasField (service : Service) (page : Forest) (r : Received) : Type 0 where
  pub there : list_any (λ x. same x.0 r.field) (fields page) ≡ true
  pub once : kind_of_field service r.field ≡ Some Single → count_by (λ x. same x.0 r.field) (fields page) ≡ 1
  pub kinds : list_all (is_of_kind r.field (kind_of_field service r.field)) (fields page) ≡ true
  pub fits : is_misfit (kind_of_field service r.field) r.kind ≡ false
