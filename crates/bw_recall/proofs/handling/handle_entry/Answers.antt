use Rattle.bw_recall.proofs.OneRequest.{none_of, one_of}
use Rattle.bw_recall.proofs.handling.handle_entry.Goals as goal

pub returns-in-Ok-clause-handled : goal.returns-in-Ok-clause-handled
returns-in-Ok-clause-handled g c =
    one_of c.args.formats.now c.args.world.now c.handle_request.new.world c.args.key c.args.message.now c.in-Ok.request c.handle_request.result c.in-Ok.ensures
    c.handle_request.ensures.handled

pub returns-in-Err-clause-handled : goal.returns-in-Err-clause-handled
returns-in-Err-clause-handled g c = none_of c.args.formats.now c.args.world.now c.args.key c.args.message.now c.in-Err.one c.in-Err.ensures
