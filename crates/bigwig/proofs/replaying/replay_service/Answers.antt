use Rattle.bw_save.specs.Frozen.{loaded_of}
use Rattle.bigwig.specs.Asked.{replayed}
use Rattle.bigwig.proofs.Begun.{any_name, replies_begun, replies_stopped}
use Rattle.bigwig.proofs.Causes.{reported_causes}
use Rattle.bigwig.proofs.replaying.replay_service.Goals as goal

pub returns-in-Ok-clause-comes : goal.returns-in-Ok-clause-comes
returns-in-Ok-clause-comes g c =
    let most = c.args.most in
    let name = c.args.name.now in
    let server = c.in-Ok.server in
    replies_begun _ _ c.args.load.now c.args.kept.text.items c.deref.result.now c.deref.result.now _ _ _ _ (loaded_of server.world) (λ disk service ruled. replayed disk name most ruled)
    _ _ _ _ _ _ _ _ c.in-Ok.ensures.told c.deref.ensures.value c.deref.ensures.value c.in-Ok.ensures.service c.in-Ok.ensures.formats c.in-Ok.ensures.answers
    (any_name _ c.deref.result.now _ _ (λ disk ruled. replayed disk name most ruled (loaded_of server.world)) _ _ _ _ _ _ _ _
    c.replay_from-status.ensures.comes)

pub returns-in-Err-clause-comes : goal.returns-in-Err-clause-comes
returns-in-Err-clause-comes g c =
    replies_stopped _ c.args.load.now c.args.kept.text.items c.deref.result.now _ _ (λ disk service ruled. replayed disk c.args.name.now c.args.most ruled) c.in-Err.stop _ _ _ _
    _ _ c.deref.ensures.value c.in-Err.ensures.answers c.report.ensures.reported

pub returns-in-Err-clause-causes : goal.returns-in-Err-clause-causes
returns-in-Err-clause-causes g c =
    reported_causes c.begin_server-begun.result c.in-Err.stop c.report.result _ _ _ _ _ _ c.in-Err.is c.begin_server-begun.ensures.read_fault c.report.ensures.read c.report.ensures.reads
    c.report.ensures.write_fault c.report.ensures.others c.report.ensures.no_journal
