use Rattle.std.proofs.Common.{◌∙◌, arith}
use Rattle.bw_flow.specs.Drawing.{first_of}
use Rattle.bw_flow.proofs.Drafts.{goes_next, session_room}
use Rattle.bw_flow.proofs.draft.Draft.sessions.Goals as goal

pub block_points-requires : goal.block_points-requires
block_points-requires c =
    let room =
    session_room c.args.typed.now.service c.args.self.now c.loop-session.self c.loop-session.firsts.items c.args.sessions.now
    c.loop-session.session-index c.args.out _ c.session-item.result c.session-item.is c.loop-session-test.true c.loop-session.invariant
    c.requires.room in omega (arith, room)

pub block-requires-clause-room : goal.block-requires-clause-room
block-requires-clause-room c =
    session_room c.args.typed.now.service c.args.self.now c.loop-session.self c.loop-session.firsts.items c.args.sessions.now
    c.loop-session.session-index c.args.out _ c.session-item.result c.session-item.is c.loop-session-test.true c.loop-session.invariant
    c.requires.room

pub loop-session-preserved : goal.loop-session-preserved
loop-session-preserved c =
    goes_next c.args.typed.now.service c.args.self.now c.loop-session.self c.block.new.self c.loop-session.firsts.items c.push.new.self.items
    c.args.sessions.now c.loop-session.session-index c.args.out
    c.begins-first.result c.session-item.result c.session-item.is c.loop-session-test.true c.loop-session.invariant
    (c.begins-first.ensures ∙ (λ i. first_of (c.block_points.ensures i) (c.len.ensures i) c.args.out))
    c.in_ok-block.ensures c.in_ok-push.ensures.items
