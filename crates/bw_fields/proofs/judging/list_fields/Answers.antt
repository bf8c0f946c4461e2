use Rattle.std.proofs.Common.{◌≡◌, take, subst}
use Rattle.std.proofs.lemmas.List.{take_all}
use Rattle.bw_faults.specs.Lists.{Adds, OfSome}
use Rattle.bw_faults.proofs.Adding.{adds_more, all_added}
use Rattle.bw_fields.specs.Found.{OfField}
use Rattle.bw_fields.proofs.judging.list_fields.Goals as goal

pub loop-field-preserved : goal.loop-field-preserved
loop-field-preserved c =
    adds_more (OfField c.args.typed.now.service c.args.outline.now c.args.root c.args.point) c.args.received.now c.loop-field.field-index
    c.field-item.result c.new-faults.result c.loop-field.faults c.judge_field.new.faults c.field-item.is c.loop-field-test.true c.loop-field.invariant
    c.in_ok-judge_field.ensures

pub returns : goal.returns
returns c =
    let P = OfField c.args.typed.now.service c.args.outline.now c.args.root c.args.point in
    let k = c.loop-field.field-index in
    let all : take k c.args.received.now ≡ c.args.received.now = take_all k c.args.received.now c.loop-field-test.false in
    all_added (OfSome P c.args.received.now) c.loop-field.faults c.as_slice-sorted.ensures.set
    (subst (λ xs. Adds (OfSome P c.args.received.now) xs c.loop-field.faults) c.new-faults.ensures
    (subst (λ rs. Adds (OfSome P rs) c.new-faults.result c.loop-field.faults) all c.loop-field.invariant))
