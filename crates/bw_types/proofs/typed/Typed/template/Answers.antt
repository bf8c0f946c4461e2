use Rattle.std.proofs.Common.{Some, ap, sym, ◌∙◌}
use Rattle.bw_lang.proofs.Small.{readable_is_small, readable_is_woven}
use Rattle.bw_types.proofs.Sorted.{templates_few, template_place}
use Rattle.bw_types.proofs.typed.Typed.template.Goals as goal

pub place-requires : goal.place-requires
place-requires c = let t = c.args.self.now in templates_few t.service (readable_is_woven t.service t.readable) t.well_typed t.known
    (readable_is_small t.service t.readable)

pub returns-in_err-number : goal.returns-in_err-number
returns-in_err-number c =
    let t = c.args.self.now in
    c.from_residual.ensures ∙ sym c.in_err-number.was ∙ c.place.ensures
    ∙ template_place t.service (readable_is_woven t.service t.readable) t.well_typed t.known c.args.name.now

pub returns : goal.returns
returns c =
    let t = c.args.self.now in
    ap Some c.of.ensures ∙ sym c.in_ok-number.was ∙ c.place.ensures
    ∙ template_place t.service (readable_is_woven t.service t.readable) t.well_typed t.known c.args.name.now
