use Rattle.std.proofs.Common.{List, ap, sym, ◌∙◌}
use Rattle.bw_lang.specs.declared.items.Item.{Item}
use Rattle.bw_lang.specs.Document.Forest.{none}
use Rattle.bw_lang.specs.Document.View.{before, forest}
use Rattle.bw_types.specs.TemplateFaults.{items_faults}
use Rattle.bw_types.proofs.First.{exits, passed, at_element}
use Rattle.bw_types.proofs.Walks.{items_step}
use Rattle.bw_types.proofs.names.Names.+items.Goals as goal

pub items-returns-in_err-item-clause-first : goal.items-returns-in_err-item-clause-first
items-returns-in_err-item-clause-first z c =
    let s = c.args.self.now.service.now in let t = c.args.template.now in let xs = c.as_slice-item-items.result.now in let i = c.loop-item.item-index in
    let x = c.item-item.result in
    exits c.from_residual.result c.in_err-item.field-0.0 (items_faults s t (before x none)) _ _ c.from_residual.ensures.1 c.in_err-item.ensures.first
    (ap (items_faults s t) (sym c.as_slice-item-items.ensures)
    ∙ at_element (λ (l : List Item). items_faults s t (forest l)) (λ y. items_faults s t (before y none))
    (items_step s t) xs i x _ c.loop-item.invariant c.item-item.is c.loop-item-test.true)

pub items-loop-item-preserved : goal.items-loop-item-preserved
items-loop-item-preserved z c =
    let s = c.args.self.now.service.now in let t = c.args.template.now in let xs = c.as_slice-item-items.result.now in let i = c.loop-item.item-index in
    let x = c.item-item.result in
    passed _ (items_faults s t (before x none)) _
    (at_element (λ (l : List Item). items_faults s t (forest l)) (λ y. items_faults s t (before y none))
    (items_step s t) xs i x _ c.loop-item.invariant c.item-item.is c.loop-item-test.true)
    c.in_ok-item.ensures.none
