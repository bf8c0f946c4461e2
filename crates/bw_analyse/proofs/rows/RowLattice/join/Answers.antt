use Rattle.std.proofs.Common.{inl, inr, ◌∙◌}
use Rattle.bw_analyse.specs.Abstracts.{both}
use Rattle.bw_analyse.specs.Rows.{each_join}
use Rattle.bw_analyse.proofs.Walks.{join_ends}
use Rattle.bw_analyse.proofs.rows.RowLattice.join.Goals as goal
use Rattle.bw_analyse.proofs.rows.RowLattice.join.Goals.{then-loop-i-test+else-i-b, else-loop-i-test}

pub returns : goal.returns
returns c =
    join_ends c.as_slice-a.result.now c.as_slice-b.result.now c.loop-i.i c.loop-i.list.items
    (elim c.loop-i-test.branch [ then-loop-i-test+else-i-b w ↦ inr w.if-i-b.false | else-loop-i-test w ↦ inl w.loop-i-test.false ])
    c.loop-i.invariant
    ∙ (λ i. each_join both (c.as_slice-a.ensures i) (c.as_slice-b.ensures i))
