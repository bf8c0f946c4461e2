use Rattle.std.proofs.Common.{◌≡◌, ◌∙◌, sym, ap, drop, true, false}
use Rattle.bw_diagnose.specs.Places as spec
use Rattle.bw_diagnose.proofs.Steps.{hole_passed, hole_absent}
use Rattle.bw_diagnose.proofs.tags.hole_place.Goals as goal
use Rattle.bw_diagnose.proofs.tags.hole_place.Goals.{then-begins_hole+else-left-eq0, else-begins_hole}

pub loop-at-preserved : goal.loop-at-preserved
loop-at-preserved c = elim c.if-begins_hole.branch [
  | then-begins_hole+else-left-eq0 w ↦
      let b : spec.begins_hole (drop c.loop-at.at c.args.inside.now) ≡ true = ap spec.begins_hole (sym c.rest.ensures) ∙ sym c.begins_hole.ensures
      ∙ w.if-begins_hole.true in
      hole_passed c.args.inside.now c.loop-at.at c.loop-at.left c.if-begins_hole.left c.loop-at-test.true b w.if-left-eq0.false w.left-is ∙ c.loop-at.invariant
  | else-begins_hole w ↦
      let b : spec.begins_hole (drop c.loop-at.at c.args.inside.now) ≡ false = ap spec.begins_hole (sym c.rest.ensures) ∙ sym c.begins_hole.ensures
      ∙ w.if-begins_hole.false in
      hole_absent c.args.inside.now c.loop-at.at c.loop-at.left c.if-begins_hole.left c.loop-at-test.true b w.left-is ∙ c.loop-at.invariant
]
