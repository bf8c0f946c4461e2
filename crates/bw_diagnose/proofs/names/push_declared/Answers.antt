use Rattle.bw_diagnose.proofs.Pushed.{declared_more}
use Rattle.bw_diagnose.proofs.names.push_declared.Goals as goal

pub loop-one-preserved : goal.loop-one-preserved
loop-one-preserved c =
    declared_more c.args.sort c.loop-one.names.items c.push_own.new.names.items c.args.declarations.now c.loop-one.one-index c.one-item.result _
    c.one-item.is c.loop-one-test.true c.in_ok-push_own.ensures c.loop-one.invariant
