use Rattle.bw_world.proofs.Handling.{taken_on, good_reply, keeps_within}
use Rattle.bw_world.proofs.requests.guarded.Goals as goal

pub returns-in-None-clause-good : goal.returns-in-None-clause-good
returns-in-None-clause-good g c =
    good_reply c.args.formats.now c.args.world.now c.args.request.now c.args.key c.handle.new.self c.handle.result c.args.steps.now c.handle.new.steps
    c.in-None.ensures.away c.handle.ensures.good

pub returns-in-None-clause-within : goal.returns-in-None-clause-within
returns-in-None-clause-within g c =
    keeps_within c.args.formats.now c.args.world.now c.args.request.now c.args.key c.handle.new.self c.handle.result c.args.steps.now c.handle.new.steps
    (taken_on c.args.formats.now c.args.world.now c.args.request.now c.args.key c.handle.new.self c.handle.result c.args.steps.now c.handle.new.steps
    c.in-None.ensures.away c.handle.ensures.step)
