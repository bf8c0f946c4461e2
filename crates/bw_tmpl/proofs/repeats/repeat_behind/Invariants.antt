use Rattle.std.proofs.Common.{◌≡◌, drop}
use Rattle.bw_lang.specs.Template.RepeatedAttributes.{repeated, attr_names}
use Rattle.bw_tmpl.proofs.Repeating.{repeated_after}
use Rattle.bw_tmpl.proofs.repeats.repeat_behind.Given as goal

abbrev pub invariant-loop-attr : goal.invariant-loop-attr
invariant-loop-attr l = repeated_after l.seen (attr_names (drop l.attr-index l.attrs)) ≡ repeated (attr_names l.attrs)
