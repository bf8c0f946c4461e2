use Rattle.std.proofs.Common.{ℕ, List, [], subst}
use Rattle.bw_faults.specs.Lists.{Adds, OfSome}
use Rattle.bw_faults.proofs.Adding.{adds_then, all_added}
use Rattle.bw_shape.specs.Nodes.Templates.{template_at}
use Rattle.bw_judge.specs.Found.{OfRoot}
use Rattle.bw_judge.specs.Pages.{OfOutline, OfAll}
use Rattle.bw_judge.proofs.judging.judge_all.Goals as goal

pub returns : goal.returns
returns c =
    let a = c.args in
    let R = OfRoot a.point a.basis.now.schema.now.root a.root in
    let T = OfOutline a.basis.now.templates.now a.basis.now.literals.now a.outline.now a.basis.now.schema.now a.point in
    let P = OfAll a.basis.now.templates.now a.basis.now.literals.now a.outline.now a.basis.now.schema.now a.root a.point in
    let order = a.outline.now.tables.order.items in
    let p : Adds (R (template_at a.basis.now.templates.now a.root)) [] c.judge_root.new.faults =
    subst (λ xs. Adds (R (template_at a.basis.now.templates.now a.root)) xs c.judge_root.new.faults) c.new-faults.ensures
    (subst (λ t. Adds (R t) c.new-faults.result c.judge_root.new.faults) c.at-items.ensures
    (subst (λ (w : List ℕ). Adds (OfRoot a.point w a.root c.at-items.result.now) c.new-faults.result c.judge_root.new.faults)
    c.root-wanted.ensures c.in_ok-judge_root.ensures)) in
    let q : Adds (OfSome T order) c.judge_root.new.faults c.judge_templates.new.faults =
    subst (λ o. Adds (OfSome T o) c.judge_root.new.faults c.judge_templates.new.faults) c.as_slice-order.ensures.value c.in_ok-judge_templates.ensures in
    all_added P c.judge_templates.new.faults c.as_slice-sorted.ensures.set (adds_then P p q (λ x h. h) (λ x h. h))
