use Rattle.std.proofs.Common.{refl}
use Rattle.bigwig.proofs.Followed.{file_followed, file_stopped}
use Rattle.bigwig.proofs.Causes.{reported_causes}
use Rattle.bigwig.proofs.visiting.visit_service.Goals as goal

pub returns-in-Ok-clause-comes : goal.returns-in-Ok-clause-comes
returns-in-Ok-clause-comes g c =
    file_followed _ c.args.kept.served.checked.typed.service c.args.kept.served.formats c.args.name.now _ _ 1048577 _ _ _ _ _ _ _ _ refl c.in-Ok.ensures.found
    c.deref.ensures.value c.visit_by-status.ensures.comes

pub returns-in-Err-clause-comes : goal.returns-in-Err-clause-comes
returns-in-Err-clause-comes g c =
    file_stopped _ c.args.kept.served.checked.typed.service c.args.kept.served.formats c.args.name.now c.in-Err.stop _ _ _ _ _ _ c.in-Err.ensures.stops
    c.report.ensures.reported

pub returns-in-Err-clause-causes : goal.returns-in-Err-clause-causes
returns-in-Err-clause-causes g c =
    reported_causes c.fetch_bytes.result c.in-Err.stop c.report.result _ _ _ _ _ _ c.in-Err.is c.fetch_bytes.ensures.read_fault c.report.ensures.read c.report.ensures.reads
    c.report.ensures.write_fault c.report.ensures.others c.report.ensures.no_journal
