use Rattle.bigwig.proofs.Sending.{lines_by}
use Rattle.bigwig.proofs.making.turns.Goals as goal

pub returns-in-Ok : goal.returns-in-Ok
returns-in-Ok g c =
    lines_by c.args.checked.typed.service c.in_ok-world.world.service c.args.count c.args.length c.in-Ok.sent _ c.in_ok-world.ensures.service
    c.in-Ok.ensures c.lines_of.ensures
