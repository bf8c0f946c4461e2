use Rattle.std.proofs.Common.{◌≡◌, ◌∙◌, sym, ap, drop, true, false, arith}
use Rattle.bw_places.specs.Tags as spec
use Rattle.bw_places.proofs.Rests.{tag_passed, tag_absent}
use Rattle.bw_places.proofs.tags.tag_place.Goals as goal
use Rattle.bw_places.proofs.tags.tag_place.Goals.{then-begins_tag+else-left-eq0, else-begins_tag}

pub loop-at-preserved : goal.loop-at-preserved
loop-at-preserved c = elim c.if-begins_tag.branch [
  | then-begins_tag+else-left-eq0 w ↦
      let b : spec.begins_tag (drop c.loop-at.at c.args.inside.now) ≡ true = ap spec.begins_tag (sym c.rest.ensures) ∙ sym c.begins_tag.ensures
      ∙ w.if-begins_tag.true in
      tag_passed c.args.inside.now c.loop-at.at c.loop-at.left c.if-begins_tag.left c.loop-at-test.true b w.if-left-eq0.false w.left-is ∙ c.loop-at.invariant
  | else-begins_tag w ↦
      let b : spec.begins_tag (drop c.loop-at.at c.args.inside.now) ≡ false = ap spec.begins_tag (sym c.rest.ensures) ∙ sym c.begins_tag.ensures
      ∙ w.if-begins_tag.false in
      tag_absent c.args.inside.now c.loop-at.at c.loop-at.left c.if-begins_tag.left c.loop-at-test.true b w.left-is ∙ c.loop-at.invariant
]
