-- The faults of received fields, by an outline.
use Rattle.std.specs.Prelude.{◌⊎◌, ℕ, Bool, true, false, ◌&&◌, not, List, None, Some, Option}
use Rattle.bw_faults.specs.declared.fault.Fault.{Fault}
use Rattle.bw_faults.specs.Lists.{When}
use Rattle.bw_flow.specs.declared.point.Received.{Received}
use Rattle.bw_lang.specs.declared.controls.FieldKind.{FieldKind}
use Rattle.bw_lang.specs.declared.controls.FieldKind.TheVariants.{Single, Choice, Many}
use Rattle.bw_lang.specs.declared.service.Service.{Service}
use Rattle.bw_lang.specs.declared.stmt.Kind.{Kind}
use Rattle.bw_lang.specs.declared.stmt.Kind.TheVariants as kinds
use Rattle.bw_types.specs.Fields.{kind_of_field}
use Rattle.bw_shape.specs.Outlines.{may_lack, may_have_twice}
use Rattle.bw_shape.specs.declared.outline.Outline.{Outline}

-- a field of this kind has one value from each of its controls
abbrev pub is_single : Option FieldKind → Bool
is_single None = false
is_single (Some Single) = true
is_single (Some Choice) = false
is_single (Some Many) = false

-- a target of this kind takes many values
abbrev pub takes_many : Kind → Bool
takes_many kinds.Int = false
takes_many kinds.Bool = false
takes_many kinds.Str = false
takes_many kinds.Html = false
takes_many kinds.Strs = true

-- the field may have many values where the target takes one, or the other way round; a field without a control fits each target
abbrev pub is_misfit : Option FieldKind → Kind → Bool
is_misfit None target = false
is_misfit (Some Single) target = takes_many target
is_misfit (Some Choice) target = takes_many target
is_misfit (Some Many) target = not (takes_many target)

-- that fault of a field
abbrev pub fault_of : ℕ → ℕ → List ℕ → Fault
fault_of number point field = record { number = number; point = point; template = None; place = 0; detail = field }

-- the page that begins as that template may lack the field; may have it twice where it takes one value; or its kind doesn't fit the target
abbrev pub OfField : Service → Outline → ℕ → ℕ → Received → Fault → Type 0
OfField service o root point r f =
    When (may_lack o root r.id) (fault_of 8 point r.field) f
    ⊎ (When (may_have_twice o root r.id && is_single (kind_of_field service r.field)) (fault_of 9 point r.field) f
    ⊎ When (is_misfit (kind_of_field service r.field) r.kind) (fault_of 10 point r.field) f)
