use Rattle.std.proofs.Common.{ap, sym, ◌∙◌, arith}
use Rattle.bw_shape.specs.Nodes.Templates.{template_at}
use Rattle.bw_explain.specs.declared.page.Page.{Page}
use Rattle.bw_explain.specs.declared.reach.Reach.{Reach}
use Rattle.bw_explain.specs.Aims.{walk_of}
use Rattle.bw_explain.specs.Tables.{size_at}
use Rattle.bw_explain.specs.Walks.{at, seek_value}
use Rattle.bw_explain.proofs.Given.{value_is}
use Rattle.bw_explain.proofs.Settling.{is_above}
use Rattle.bw_explain.proofs.settle.open_size.Goals as goal

pub returns-clause-is : goal.returns-clause-is
returns-clause-is c =
    let w = c.args.walk.now in
    let b = c.beside-walk.result in
    let e = c.beside-walk.ensures in
    let n = c.args.n in
    let t = c.args.known.now in
    c.at.ensures.is ∙ ap (λ (r : Reach). at r b.high) c.reach_items.ensures.is
    ∙ value_is w b t e.page e.aim e.states.0 e.states.1 n c.items.result.now e.walk
    (c.items.ensures ∙ ap (λ (p : Page). template_at p.templates.now n) e.page)
    ∙ sym (is_above (size_at t n) (seek_value w.page.templates.now (walk_of w) w.low w.high (size_at t) n)
    (let s = c.size.ensures.size in let l = c.if-size-le-PAST.false in omega (arith, s, l)))
