use Rattle.std.proofs.Common.{◌<◌, Some, length, refl, ap, sym, ◌∙◌, subst, arith}
use Rattle.std.proofs.lemmas.Option.{same_Some}
use Rattle.bw_lang.specs.Document.Documents.{elements}
use Rattle.bw_shape.specs.Nodes.Templates.{template_at}
use Rattle.bw_explain.specs.Places.{IsThere}
use Rattle.bw_explain.proofs.Placing.{at_few, at_low, at_high, there_low}
use Rattle.bw_explain.proofs.places.element_of.Goals as goal

pub element_at-requires : goal.element_at-requires
element_at-requires c = let l = at_low c.requires.3 in let e = c.requires.2 in omega (arith, l, e)

pub unreachable-requires-in_default-element_at : goal.unreachable-requires-in_default-element_at
unreachable-requires-in_default-element_at c =
    let ts = c.args.templates.now in
    let same = same_Some c.requires.0.template c.number-template.result (sym c.requires.1 ∙ c.in-Some.is ∙ ap Some (sym c.number-template.ensures)) in
    let e = c.in_default-element_at.ensures.0 in
    let o = c.in_default-element_at.ensures.1 in
    let q = ap elements c.at.ensures in
    let s = ap (λ n. elements (template_at ts n)) same in
    let h = at_high c.requires.3 in
    let k = c.requires.2 in
    omega (arith, e, o, q, s, h, k)

pub returns : goal.returns
returns c =
    let ts = c.args.templates.now in
    let same = same_Some c.requires.0.template c.number-template.result (sym c.requires.1 ∙ c.in-Some.is ∙ ap Some (sym c.number-template.ensures)) in
    let h = subst (λ t. IsThere t c.args.fault.now.place c.in-Ok.element.now) c.at.ensures c.in-Ok.ensures in
    record {
      template = c.in-Some.is ∙ ap Some (sym c.number-template.ensures);
      place = refl;
      low = subst (λ n. n < length ts) same (there_low ts c.requires.0.template c.requires.3);
      at = h;
      few = at_few h;
    }
