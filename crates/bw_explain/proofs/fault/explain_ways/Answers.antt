use Rattle.bw_explain.proofs.Faulty.{placed_there, spot_has_rule}
use Rattle.bw_explain.proofs.fault.explain_ways.Goals as goal

pub element_of-spot-requires : goal.element_of-spot-requires
element_of-spot-requires c = placed_there c.args.page.now.templates.now c.args.schema.now.elements c.args.fault.now c.requires.placed

pub explain_spot-requires-clause-spot : goal.explain_spot-requires-clause-spot
explain_spot-requires-clause-spot c = c.element_of-spot.ensures

pub explain_spot-requires-clause-rule : goal.explain_spot-requires-clause-rule
explain_spot-requires-clause-rule c = spot_has_rule c.args.page.now.templates.now c.args.schema.now.elements c.args.fault.now c.requires.placed
    c.element_of-spot.result c.element_of-spot.ensures
