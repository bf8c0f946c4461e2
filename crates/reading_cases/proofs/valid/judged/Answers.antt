use Rattle.std.proofs.Common.{[], arith}
use Rattle.bw_lang.specs.Template.Templates.{IsTemplate}
use Rattle.bw_lang.proofs.Weights.{parts_weigh}
use Rattle.bw_tmpl.proofs.Weights.{items_bounded}
use Rattle.reading_cases.proofs.valid.judged.Goals as goal

-- a short text has few elements
pub valid-judged-requires : goal.valid-judged-requires
valid-judged-requires c =
    let r = c.in-Ok.ensures.items in
    let t : IsTemplate [] 512 c.args.page.now c.in-Ok.items =
    record { pieces = r.pieces; spelled = r.spelled.spells; once = r.once; reads = r.reads; nested = r.nested } in
    omega (arith, c.if-page-gt-MAX_BYTES.false, items_bounded [] 512 c.args.page.now c.in-Ok.items t, parts_weigh c.in-Ok.items)
