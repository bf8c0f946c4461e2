use Rattle.std.proofs.Common.{◌≡◌, take, true, false}
use Rattle.std.specs.List.{list_any}
use Rattle.bw_schema.specs.Validity.{each_fixed}
use Rattle.bw_sum.specs.Unfolding.{FillsAttrs}
use Rattle.bw_explain.specs.Ways.{ways_at, graph}
use Rattle.bw_explain.specs.Atoms.{passes, fails}
use Rattle.bw_explain.specs.Owns.{may_fail}
use Rattle.bw_explain.proofs.own.add_failing.Given as goal

abbrev pub invariant-loop-attr : goal.invariant-loop-attr
invariant-loop-attr l =
    FillsAttrs (graph l.page.nodes.now) l.n (take l.attr-index l.attr-items) l.out
    × (list_any (λ x. may_fail (ways_at l.page.nodes.now l.n) (passes l.breach.rule.now l.breach.atom.now)
    (fails l.breach.rule.now l.breach.atom.now) x.name x.value) (take l.attr-index l.attr-items)
    ≡ true → each_fixed (passes l.breach.rule.now l.breach.atom.now) l.out ≡ false)
