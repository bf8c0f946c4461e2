use Rattle.std.proofs.Common.{List, length, ap, ◌∙◌, subst}
use Rattle.bw_faults.specs.Lists.{Lists, OfSome}
use Rattle.bw_flow.specs.declared.point.Received.{Received}
use Rattle.bw_lang.proofs.Small.{readable_is_woven}
use Rattle.bw_types.proofs.WellTyped.{typed}
use Rattle.bw_fields.specs.Found.{OfField}
use Rattle.bw_fields.proofs.Whole.{exact_fields, sound_fields}
use Rattle.bw_shape.proofs.Outcomes.{if_ok}
use Rattle.bw_fields.proofs.judging.judge_fields.Goals as goal

pub returns-clause-exact : goal.returns-clause-exact
returns-clause-exact c =
    let s = c.args.typed.now.service in
    let o = c.args.outline.now in
    let root = c.show_wrapper-root.ensures ∙ ap length c.as_slice-count.ensures ∙ ap (λ z. length z.templates) c.service.ensures in
    if_ok c.list_fields.result (λ l h page schema shown. exact_fields s page schema o shown c.args.point c.args.received.now c.requires l
    (subst (λ k. Lists (OfSome (OfField s o k c.args.point) c.args.received.now) l) root
    (subst (λ (rs : List Received). Lists (OfSome (OfField s o c.show_wrapper-root.result c.args.point) rs) l) c.as_slice.ensures h))) c.list_fields.ensures

pub returns-clause-sound : goal.returns-clause-sound
returns-clause-sound c =
    let s = c.args.typed.now.service in
    let o = c.args.outline.now in
    let root = c.show_wrapper-root.ensures ∙ ap length c.as_slice-count.ensures ∙ ap (λ z. length z.templates) c.service.ensures in
    let is_typed = typed s (readable_is_woven s c.args.typed.now.readable) c.args.typed.now.well_typed in
    if_ok c.list_fields.result (λ l h none page schema shown d u. sound_fields s page schema o shown c.args.point is_typed c.args.received.now c.requires l
    (subst (λ k. Lists (OfSome (OfField s o k c.args.point) c.args.received.now) l) root
    (subst (λ (rs : List Received). Lists (OfSome (OfField s o c.show_wrapper-root.result c.args.point) rs) l) c.as_slice.ensures h)) none d u)
    c.list_fields.ensures
