use Rattle.std.proofs.Common.{◌≡◌, map, take}
use Rattle.bw_lang.specs.Table.Names.{with_names}
use Rattle.bw_types.proofs.tables.add_templates.Given as goal

abbrev pub invariant-loop-template : goal.invariant-loop-template
invariant-loop-template l = l.names ≡ with_names l.initial.names (map (λ t. t.name) (take l.template-index l.templates))
