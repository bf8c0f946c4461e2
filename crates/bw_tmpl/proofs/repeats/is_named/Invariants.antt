use Rattle.std.proofs.Common.{◌≡◌, drop}
use Rattle.std.specs.List.{list_any}
use Rattle.bw_lang.specs.Table.Names.{same}
use Rattle.bw_lang.specs.Template.RepeatedAttributes.{attr_names}
use Rattle.bw_tmpl.proofs.repeats.is_named.Given as goal

abbrev pub invariant-loop-attr : goal.invariant-loop-attr
invariant-loop-attr l = list_any (same l.name) (attr_names (drop l.attr-index l.attrs)) ≡ list_any (same l.name) (attr_names l.attrs)
