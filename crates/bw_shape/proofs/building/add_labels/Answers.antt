use Rattle.std.proofs.Common.{arith, ap, ℕ, sym, subst}
use Rattle.bw_strings.specs.declared.strings.StrSet.{StrSet}
use Rattle.bw_strings.specs.Asking.{AreLiterals}
use Rattle.bw_shape.proofs.Nodes.Growing.{said_more, saying_more}
use Rattle.bw_shape.proofs.building.add_labels.Goals as goal

pub add_said-requires-clause-row : goal.add_said-requires-clause-row
add_said-requires-clause-row c =
    omega (
      arith,
      c.requires.nodes c.loop-label.label-index c.label-item.result c.loop-label-test.true,
      ap {B = ℕ} (λ l. l.0.0) c.label-item.is,
      c.loop-label.invariant.0.len,
    )

pub add_said-requires-clause-literals : goal.add_said-requires-clause-literals
add_said-requires-clause-literals c =
    subst (λ (l : (ℕ × ℕ) × StrSet). AreLiterals c.args.literals.now l.1) (sym c.label-item.is)
    (c.requires.literals c.loop-label.label-index c.label-item.result c.loop-label-test.true)

pub add_saying-requires : goal.add_saying-requires
add_saying-requires c =
    omega (
      arith,
      c.requires.nodes c.loop-label.label-index c.label-item.result c.loop-label-test.true,
      ap {B = ℕ} (λ l. l.0.0) c.label-item.is,
      c.requires.said,
      c.loop-label.invariant.1.len,
    )

pub loop-label-preserved : goal.loop-label-preserved
loop-label-preserved c = (
  said_more c.args.literals.now c.args.labels.now c.loop-label.label-index c.label-item.result c.label-item.result _ _ _ c.label-item.is
      c.loop-label-test.true c.loop-label.invariant.0 c.in_ok-add_said.ensures,
  saying_more c.args.labels.now c.loop-label.label-index c.label-item.result c.label-item.result _ _ _ c.label-item.is c.loop-label-test.true
      c.loop-label.invariant.1 c.in_ok-add_saying.ensures,
)
