use Rattle.std.proofs.Common.{sym, ◌∙◌}
use Rattle.bw_agent.proofs.Offered.{chosen_here, chosen_later}
use Rattle.bw_agent.proofs.filling.chosen_for.Goals as goal

pub returns-in-Some : goal.returns-in-Some
returns-in-Some c =
    sym c.loop-control.invariant
    ∙ chosen_here c.args.name.now c.args.controls.now c.loop-control.control-index c.control-item.result c.control-item.is c.loop-control-test.true
    c.in-Some.value.now c.in-Some.ensures

pub loop-control-preserved : goal.loop-control-preserved
loop-control-preserved c =
    chosen_later c.args.name.now c.args.controls.now c.loop-control.control-index c.control-item.result c.control-item.is c.loop-control-test.true
    c.in_default.ensures
    ∙ c.loop-control.invariant
