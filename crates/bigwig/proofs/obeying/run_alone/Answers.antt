use Rattle.std.proofs.Common.{ap}
use Rattle.bigwig.specs.Asked.{frozen_from, replayed_from, served_from, visited}
use Rattle.bigwig.specs.Lent.{seen_of}
use Rattle.bigwig.proofs.Begun.{any_name}
use Rattle.bigwig.proofs.Running.{port_runs, replies_run, same_command}
use Rattle.bigwig.proofs.obeying.run_alone.Goals as goal

pub returns-in-Replay-clause-comes : goal.returns-in-Replay-clause-comes
returns-in-Replay-clause-comes g c =
    let before = seen_of g.F.Files g.J.Journals g.D.Door g.K.Keys g.W.Channel c.args.lent.now in
    let after = seen_of g.F.Files g.J.Journals g.D.Door g.K.Keys g.W.Channel c.replay_service.new.lent in
    let others = c.replay_service.ensures.others in
    same_command _ _ _ _ _ _ before after _ c.in-Replay.is
    (replies_run _ _ _ _ _ c.in-Replay.requests (λ disk name from. replayed_from disk name c.in-Replay.load from c.in-Replay.most) before after _
    c.as_str.ensures.text (ap g.D.Door.asked others.0) (ap g.D.Door.coming others.0) (ap g.D.Door.returned others.0) (ap g.J.Journals.deeds others.1)
    c.replay_service.ensures.comes)

pub returns-in-Serve-clause-comes : goal.returns-in-Serve-clause-comes
returns-in-Serve-clause-comes g c =
    let before = seen_of g.F.Files g.J.Journals g.D.Door g.K.Keys g.W.Channel c.args.lent.now in
    let after = seen_of g.F.Files g.J.Journals g.D.Door g.K.Keys g.W.Channel c.serve_service.new.lent in
    same_command _ _ _ _ _ _ before after _ c.in-Serve.is
    (port_runs _ _ _ _ (λ disk name. served_from disk name c.in-Serve.load c.in-Serve.port c.in-Serve.most) before after _
    c.serve_service.ensures.comes)

pub returns-in-Freeze-clause-comes : goal.returns-in-Freeze-clause-comes
returns-in-Freeze-clause-comes g c =
    let before = seen_of g.F.Files g.J.Journals g.D.Door g.K.Keys g.W.Channel c.args.lent.now in
    let after = seen_of g.F.Files g.J.Journals g.D.Door g.K.Keys g.W.Channel c.freeze_service.new.lent in
    let others = c.freeze_service.ensures.others in
    same_command _ _ _ _ _ _ before after _ c.in-Freeze.is
    (replies_run _ _ _ _ _ c.in-Freeze.requests (λ disk name from. frozen_from disk name c.in-Freeze.load from c.in-Freeze.most) before after _
    c.as_str-in-Freeze.ensures.text (ap g.D.Door.asked others.0) (ap g.D.Door.coming others.0) (ap g.D.Door.returned others.0)
    (ap g.J.Journals.deeds others.1) c.freeze_service.ensures.comes)

pub returns-in-Visit-clause-comes : goal.returns-in-Visit-clause-comes
returns-in-Visit-clause-comes g c =
    let before = seen_of g.F.Files g.J.Journals g.D.Door g.K.Keys g.W.Channel c.args.lent.now in
    let after = seen_of g.F.Files g.J.Journals g.D.Door g.K.Keys g.W.Channel c.visit_service.new.lent in
    let others = c.visit_service.ensures.others in
    same_command _ _ _ _ _ _ before after _ c.in-Visit.is
    (replies_run _ _ _ _ _ c.in-Visit.script (λ disk name by. visited disk by) before after _ c.as_str-in-Visit.ensures.text
    (ap g.D.Door.asked others.0) (ap g.D.Door.coming others.0) (ap g.D.Door.returned others.0) (ap g.J.Journals.deeds others.1)
    (any_name _ c.args.kept.text.items _ _ (λ disk. visited disk c.as_str-in-Visit.result.now) _ _ _ _ _ _ _ _ c.visit_service.ensures.comes))
