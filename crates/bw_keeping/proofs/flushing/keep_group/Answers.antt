use Rattle.std.proofs.Common.{subst}
use Rattle.bw_keeping.specs.Steps.{Keeps}
use Rattle.bw_keeping.proofs.flushing.keep_group.Goals as goal

pub returns-clause-keeps : goal.returns-clause-keeps
returns-clause-keeps g c =
    subst (λ b. Keeps (g.J.Journal.deeds c.args.journal.now) (g.J.Journal.deeds c.keep_bytes.new.journal) b (g.D.Door.returned c.args.door.now)
    (g.C.Channel.held c.args.links.now)) c.bytes.ensures c.in_ok-keep_bytes.ensures.keeps
