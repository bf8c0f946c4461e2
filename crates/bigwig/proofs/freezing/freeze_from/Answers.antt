use Rattle.std.proofs.Common.{◌≡◌, IfSome, refl, inl, subst}
use Rattle.bw_save.specs.Frozen.{loaded_of}
use Rattle.bigwig.specs.Asked.{frozen}
use Rattle.bigwig.proofs.Saving.{nothing_frozen, absent_frozen, requests_frozen}
use Rattle.bigwig.proofs.Causes.{frozen_causes, unread_causes}
use Rattle.bigwig.proofs.freezing.freeze_from.Goals as goal

pub returns-in-Err-clause-comes : goal.returns-in-Err-clause-comes
returns-in-Err-clause-comes g c =
    let from = loaded_of c.args.server.world in
    nothing_frozen _ c.args.text.now c.args.server.world.service c.args.server.formats
    (λ disk service ruled. frozen disk service c.args.name.now c.args.most ruled from) _ _ _ _ _ (inl refl)

pub returns-in-Err-clause-causes : goal.returns-in-Err-clause-causes
returns-in-Err-clause-causes g c = unread_causes _ _ _ _ _ c.in-Err.ensures.cause.failed

pub returns-in-Ok-None-clause-comes : goal.returns-in-Ok-None-clause-comes
returns-in-Ok-None-clause-comes g c =
    absent_frozen g.F.File.Channel.left _ c.args.name.now c.args.text.now _ c.no_file-stop.result c.args.server.world.service c.args.server.formats
    (loaded_of c.args.server.world) c.args.most _ _ _ _ _ _
    c.in-Ok-None.field-0-is c.in-Ok-None.ensures.found c.no_file-stop.ensures c.report.ensures.reported

pub returns-in-Ok-Some-clause-comes : goal.returns-in-Ok-Some-clause-comes
returns-in-Ok-Some-clause-comes g c =
    requests_frozen g.F.File.Channel.left _ c.args.name.now c.args.text.now _ c.in-Ok-Some.file c.args.server.formats c.args.most
    c.args.server.world c.answer_source-end.new.server.world c.args.server.intake c.answer_source-end.new.server.intake
    (g.F.File.Channel.left c.in-Ok-Some.file) (g.F.File.Channel.left c.answer_source-end.new.source)
    (g.K.Keys.coming c.args.lent.now.keys.now) (g.K.Keys.coming c.answer_source-end.new.keys) c.args.lent.now.steps.now c.answer_source-end.new.steps
    _ _ _ c.answer_source-end.result c.freeze_end.result c.close.ensures.unread c.in-Ok-Some.field-0-is c.in-Ok-Some.ensures.found
    c.requires.fit c.requires.none refl c.answer_source-end.ensures.service
    c.answer_source-end.ensures.answers c.answer_source-end.ensures.pages c.freeze_end.ensures.freezes

pub returns-in-Ok-Some-clause-causes : goal.returns-in-Ok-Some-clause-causes
returns-in-Ok-Some-clause-causes g c =
    frozen_causes c.answer_source-end.result c.freeze_end.result _ _ _ _ _ _ _ _ _ c.in-Ok-Some.ensures.cause.quiet
    (subst (λ f. IfSome f (λ file. g.F.File.Channel.read_faults file ≡ 0)) c.in-Ok-Some.field-0-is c.in-Ok-Some.ensures.fresh)
    c.answer_source-end.ensures.read_fault c.close.ensures.failed c.close.ensures.quiet c.freeze_end.ensures.read c.freeze_end.ensures.reads
    c.freeze_end.ensures.write_fault c.freeze_end.ensures.others c.freeze_end.ensures.no_journal
