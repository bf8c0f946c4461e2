use Rattle.std.proofs.Common.{ap, ◌∙◌, List}
use Rattle.bw_lang.specs.declared.pieces.RawAttr.{RawAttr}
use Rattle.bw_tmpl.specs.Steps.Reading.{each, attr_at}
use Rattle.bw_tmpl.proofs.Many.{onto, onto_more, onto_none}
use Rattle.bw_tmpl.proofs.Shrinking.{attr_less, attr_shrinks}
use Rattle.bw_tmpl.proofs.tags.attrs_at.Goals as goal

pub attrs-smaller : goal.attrs-smaller
attrs-smaller c = attr_less c.attrs.rest.now (c.in-Ok.attr, c.in-Ok.after.now) c.in-Ok.ensures

pub attrs-preserved : goal.attrs-preserved
attrs-preserved c =
    ap (λ (t : List RawAttr). onto t (each attr_at c.in-Ok.after.now)) c.in_ok-push-in-Ok.ensures.items
    ∙ onto_more attr_at attr_shrinks c.attrs.attrs.items c.attrs.rest.now c.in-Ok.attr c.in-Ok.after.now (each attr_at c.args.bytes.now)
    c.in-Ok.ensures c.attrs.invariant

pub returns-in-Err-Malformed : goal.returns-in-Err-Malformed
returns-in-Err-Malformed c =
    onto_none attr_at attr_shrinks c.attrs.attrs.items c.attrs.rest.now (each attr_at c.args.bytes.now)
    (rw c.in-Err-Malformed.field-0-is at c.in-Err-Malformed.ensures) c.attrs.invariant
