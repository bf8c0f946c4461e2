use Rattle.std.proofs.Common.{◌≡◌, drop, find}
use Rattle.std.specs.Prelude.{nat_lt}
use Rattle.bw_lang.specs.Service.Limits.{attr_lengths}
use Rattle.bw_limits.proofs.lengths.Search.attributes.Given as goal

abbrev pub invariant-loop-attr : goal.invariant-loop-attr
invariant-loop-attr l =
    find (nat_lt l.self.most) (attr_lengths l.gaps l.element.tag (drop l.attr-index l.attr-items))
    ≡ find (nat_lt l.self.most) (attr_lengths l.gaps l.element.tag l.element.attrs)
