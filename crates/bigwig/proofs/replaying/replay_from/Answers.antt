use Rattle.std.proofs.Common.{refl, inl}
use Rattle.bw_save.specs.Frozen.{loaded_of}
use Rattle.bw_world.specs.Streams.Answers.{between}
use Rattle.bigwig.specs.Asked.{replayed}
use Rattle.bigwig.proofs.Replies.{nothing_replied, absent_replied, requests_replied}
use Rattle.bigwig.proofs.replaying.replay_from.Goals as goal

pub returns-in-Err-clause-comes : goal.returns-in-Err-clause-comes
returns-in-Err-clause-comes g c =
    let from = loaded_of c.args.server.now.world in
    nothing_replied _ c.args.server.now.world.service c.args.server.now.formats (λ disk ruled. replayed disk c.args.name.now c.args.most ruled from) _ _ _ _ _
    (inl refl)

pub returns-in-Ok-None-clause-comes : goal.returns-in-Ok-None-clause-comes
returns-in-Ok-None-clause-comes g c =
    absent_replied g.F.File.Channel.left _ c.args.name.now _ c.no_file.result c.args.server.now.world.service c.args.server.now.formats
    (loaded_of c.args.server.now.world) c.args.most _ _ _ _ _ _
    c.in-Ok-None.field-0-is c.in-Ok-None.ensures.found c.no_file.ensures c.report.ensures.reported

pub returns-in-Ok-Some-clause-comes : goal.returns-in-Ok-Some-clause-comes
returns-in-Ok-Some-clause-comes g c =
    requests_replied g.F.File.Channel.left _ c.args.name.now _ c.in-Ok-Some.file c.args.server.now.formats c.args.most
    (between c.args.server.now.world c.args.server.now.intake (g.F.File.Channel.left c.in-Ok-Some.file) (g.W.Channel.held c.args.lent.now.out.now)
    (g.K.Keys.coming c.args.lent.now.keys.now) c.args.lent.now.steps.now)
    (between c.answer_source-end.new.server.world c.answer_source-end.new.server.intake (g.F.File.Channel.left c.answer_source-end.new.source)
    (g.W.Channel.held c.answer_source-end.new.out) (g.K.Keys.coming c.answer_source-end.new.keys) c.answer_source-end.new.steps)
    _ c.answer_source-end.result _ c.close.ensures.unread c.status_of.ensures c.in-Ok-Some.field-0-is c.in-Ok-Some.ensures.found
    c.requires.fit c.requires.none refl
    c.answer_source-end.ensures.answers c.answer_source-end.ensures.pages
