use Rattle.bw_save.proofs.Chains.{one_more}
use Rattle.bw_saved.specs.Sessions.Layout.{session}
use Rattle.bw_save.proofs.sessions.put_sessions.Goals as goal

pub put_session-requires : goal.put_session-requires
put_session-requires c = rw c.record-item.is (c.requires c.loop-record.record-index _ c.loop-record-test.true)

pub loop-record-preserved : goal.loop-record-preserved
loop-record-preserved c =
    one_more (session c.args.flow.now.steps) c.args.records.now c.loop-record.record-index _ c.record-item.result c.args.out.now.items c.loop-record.out.items
    c.put_session.new.out.items c.loop-record-test.true c.record-item.is c.loop-record.invariant c.in_ok-put_session.ensures
