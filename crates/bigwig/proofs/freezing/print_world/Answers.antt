use Rattle.bigwig.proofs.Saving.{frozen_saved, frozen_refused}
use Rattle.bigwig.proofs.freezing.print_world.Goals as goal

pub returns-in-Ok-clause-frozen : goal.returns-in-Ok-clause-frozen
returns-in-Ok-clause-frozen g c =
    frozen_saved c.args.text.now c.deref.result.now c.in-Ok.bytes.items c.args.world _ _ c.print_text.result c.deref.ensures.value c.in-Ok.ensures.file
    c.in-Ok.ensures.fit c.print_text.ensures.prints

pub returns-in-Err-TooLong-clause-frozen : goal.returns-in-Err-TooLong-clause-frozen
returns-in-Err-TooLong-clause-frozen g c =
    frozen_refused c.args.text.now c.args.world c.in-Err-TooLong.field-0 c.in-Err-TooLong.weight c.save_line.result c.refused.result _ _ c.report.result
    c.in-Err-TooLong.ensures.fault c.in-Err-TooLong.field-0-is c.save_line.ensures c.refused.ensures.line c.refused.ensures.memory
    c.report.ensures.reported
