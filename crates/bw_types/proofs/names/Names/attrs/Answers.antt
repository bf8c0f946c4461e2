use Rattle.std.proofs.Common.{refl, ap, sym, ◌∙◌}
use Rattle.bw_lang.specs.declared.items.Attr.{Attr}
use Rattle.bw_types.specs.TemplateFaults.{attr_faults, value_fault}
use Rattle.bw_types.proofs.First.{exits, passed, at_element}
use Rattle.bw_types.proofs.names.Names.attrs.Goals as goal

pub returns-in_err-value-clause-first : goal.returns-in_err-value-clause-first
returns-in_err-value-clause-first c =
    let s = c.args.self.now.service.now in let x = c.attr-item.result in
    exits c.from_residual.result c.in_err-value.field-0.0 (value_fault s x.value) _ _ c.from_residual.ensures.1 c.in_err-value.ensures.first
    (ap (attr_faults s) (sym c.as_slice-attr-items.ensures)
    ∙ at_element (attr_faults s) (λ (a : Attr). value_fault s a.value) (λ y ys. refl) _ _ x _ c.loop-attr.invariant c.attr-item.is c.loop-attr-test.true)

pub loop-attr-preserved : goal.loop-attr-preserved
loop-attr-preserved c =
    let s = c.args.self.now.service.now in let x = c.attr-item.result in
    passed _ (value_fault s x.value) _ (at_element (attr_faults s) (λ (a : Attr). value_fault s a.value)
    (λ y ys. refl) _ _ x _ c.loop-attr.invariant c.attr-item.is c.loop-attr-test.true) c.in_ok-value.ensures.none
