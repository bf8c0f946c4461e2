use Rattle.std.proofs.Common.{ap, sym, ◌∙◌, subst}
use Rattle.bw_shape.specs.Nodes.Templates.{template_at}
use Rattle.bw_explain.specs.Aims.{aim_of, walk_of, table_of}
use Rattle.bw_explain.specs.Walks.{gap_cost, Picks}
use Rattle.bw_explain.specs.Ways.{way_of, ways_at}
use Rattle.bw_explain.proofs.Making.{picks_run}
use Rattle.bw_explain.proofs.gaps.put_gap.Goals as goal

pub returns-in_ok-put_way-in-Some : goal.returns-in_ok-put_way-in-Some
returns-in_ok-put_way-in-Some c = λ k.
    let w = c.args.stand.now.walk.now in
    let e = ap (λ x. way_of x c.args.gap) (sym c.node.ensures) ∙ c.in-Some.ensures in
    picks_run (template_at w.page.templates.now) w.page.nodes.now (aim_of w.aim) c.args.stand.now.n k c.args.gap c.args.from c.args.to
    (gap_cost (walk_of w) (way_of (ways_at w.page.nodes.now c.args.stand.now.n) c.args.gap) c.args.from c.args.to) c.in-Some.way.now
    (table_of w.known c.args.from c.args.to) c.args.out.now c.put_way.new.out e c.requires.small c.requires.docs
    (subst (λ v. Picks (aim_of w.aim) c.in-Some.way.now (table_of w.known c.args.from c.args.to) c.args.from c.args.to v c.args.out.now c.put_way.new.out)
    (ap (λ x. gap_cost (walk_of w) x c.args.from c.args.to) (sym e)) c.in_ok-put_way-in-Some.ensures)
