use Rattle.std.proofs.Common.{ap, sym}
use Rattle.bw_explain.specs.Building.{way_for}
use Rattle.bw_explain.specs.Ways.{Way}
use Rattle.bw_explain.proofs.Tying.{made_more, has_more, has_already}
use Rattle.bw_explain.proofs.building.add_way.Goals as goal

pub returns-in_ok-push-clause-made : goal.returns-in_ok-push-clause-made
returns-in_ok-push-clause-made c =
    let g = c.args.gap in
    made_more (λ h. way_for c.args.literals.now c.args.node.now c.args.said.now h) c.args.ways.now c.push.new.self c.in_ok-way.way g c.requires
    c.in_ok-way.ensures (ap (λ (w : Way). w.at) c.in_ok-way.ensures) c.in_ok-push.ensures

pub returns-in_ok-push-clause-has : goal.returns-in_ok-push-clause-has
returns-in_ok-push-clause-has c = λ h.
    has_more c.args.ways.now c.push.new.self c.in_ok-way.way c.args.gap h (ap (λ (w : Way). w.at) c.in_ok-way.ensures) c.in_ok-push.ensures

pub returns-else-not-has-clause-has : goal.returns-else-not-has-clause-has
returns-else-not-has-clause-has c = λ h. has_already c.args.ways.now c.args.gap h (sym c.if-not-has.ensures)
