use Rattle.std.proofs.Common.{◌≡◌, take}
use Rattle.bw_types.specs.Fields.{template_fields}
use Rattle.bw_types.specs.Gaps.{template_uses}
use Rattle.bw_types.specs.Tables.{with_kinds, with_uses}
use Rattle.bw_types.proofs.tables.note_templates.Given as goal

abbrev pub invariant-loop-template : goal.invariant-loop-template
invariant-loop-template l = record {
  gaps : l.gaps ≡ with_uses l.initial.gaps (template_uses (take l.template-index l.templates));
  controls : l.controls ≡ with_kinds l.initial.controls (template_fields (take l.template-index l.templates));
}
