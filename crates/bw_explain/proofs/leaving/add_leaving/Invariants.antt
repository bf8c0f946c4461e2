use Rattle.std.proofs.Common.{◌≡◌, take, false}
use Rattle.bw_sum.specs.Unfolding.{FillsAttrs}
use Rattle.bw_explain.specs.Ways.{graph}
use Rattle.bw_explain.specs.Atoms.{passes}
use Rattle.bw_explain.specs.Owns.{has_passing}
use Rattle.bw_explain.proofs.leaving.add_leaving.Given as goal

abbrev pub invariant-loop-attr : goal.invariant-loop-attr
invariant-loop-attr l =
    FillsAttrs (graph l.page.nodes.now) l.n (take l.attr-index l.attr-items) l.out
    × (has_passing (passes l.lack.breach.now.rule.now l.lack.breach.now.atom.now) l.lack.name.now l.out ≡ false)
