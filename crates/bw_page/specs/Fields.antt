-- The list of a page's fields.
use Rattle.std.specs.Prelude.{ℕ, List}
use Rattle.bw_lang.specs.declared.controls.FieldKind.{FieldKind}
use Rattle.bw_page.specs.declared.field_list.FieldUse.{FieldUse}

-- the name and the kind of a field
abbrev pub name_and_kind : FieldUse → List ℕ × FieldKind
name_and_kind u = (u.name, u.kind)
