use Rattle.bw_world.proofs.Streams.Messages.{request_taken, outcome_taken_as, short_taken}
use Rattle.bw_world.proofs.stream.take.Goals as goal

pub returns-in-Ok-clause-takes : goal.returns-in-Ok-clause-takes
returns-in-Ok-clause-takes g c =
    request_taken c.args.formats.now _ _ _ c.draw-key.result c.guarded.result c.in-Ok.ensures.stream c.draw-key.ensures c.guarded.ensures.step
    c.guarded.ensures.service

pub returns-in-Err-clause-takes : goal.returns-in-Err-clause-takes
returns-in-Err-clause-takes g c = outcome_taken_as c.args.formats.now _ _ _ _ c.in-Err.outcome _ c.without_request.ensures c.in-Err.ensures.stream
    (short_taken _ _ _ _ c.in-Err.outcome c.in-Err.ensures.taken)
