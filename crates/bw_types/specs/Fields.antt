-- The fields of a service: those of the controls of its templates, and those that its sessions receive.
use Rattle.std.specs.Prelude.{ℕ, List, [], flat_map, position, Option}
use Rattle.bw_lang.specs.declared.controls.FieldKind.{FieldKind}
use Rattle.bw_lang.specs.declared.service.Service.{Service}
use Rattle.bw_lang.specs.declared.service.Template.{Template}
use Rattle.bw_lang.specs.Template.Controls.{fields}
use Rattle.bw_lang.specs.Service.Limits.{declared_fields}
use Rattle.bw_lang.specs.Table.Names.{same, beside, with_names}
use Rattle.bw_lang.specs.Service.Order.{declarations_of}

-- the names of controls and the fields of receives, in source order
abbrev pub field_names : Service → List (List ℕ)
field_names service = flat_map declared_fields (declarations_of service)

-- the number of the field of that name
abbrev pub field_number : Service → List ℕ → Option ℕ
field_number service w = position (same w) (with_names [] (field_names service))

-- the fields of the controls of all templates, with their kinds
abbrev pub template_fields : List Template → List (List ℕ × FieldKind)
template_fields templates = flat_map (λ t. fields t.items) templates

-- a field's kind is that of its first control
abbrev pub kind_of_field : Service → List ℕ → Option FieldKind
kind_of_field service w = beside w (template_fields service.templates)
