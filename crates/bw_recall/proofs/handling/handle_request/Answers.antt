use Rattle.bw_recall.proofs.OneRequest.{handled}
use Rattle.bw_recall.proofs.handling.handle_request.Goals as goal

pub returns-clause-handled : goal.returns-clause-handled
returns-clause-handled g c =
    handled c.args.formats.now c.args.world.now c.guarded-reply.new.world c.args.request.now c.args.key c.guarded-reply.result c.args.steps.now
    c.guarded-reply.new.steps c.guarded-reply.ensures.step (λ e. let t = c.is_want.ensures.1 e in let f = c.if-is_want.false in cc)
