use Rattle.std.proofs.Common.{◌≡◌, length}
use Rattle.bw_lang.specs.Template.RepeatedAttributes.{repeated, attr_names}
use Rattle.bw_tmpl.proofs.repeats.few_repeat.Given as goal

abbrev pub invariant-names : goal.invariant-names
invariant-names l = repeated (attr_names l.rest) ≡ repeated (attr_names l.attrs)

abbrev pub decreases-names : goal.decreases-names
decreases-names l = length l.rest
