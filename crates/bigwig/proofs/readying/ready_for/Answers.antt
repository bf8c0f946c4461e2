use Rattle.std.proofs.Common.{refl}
use Rattle.bigwig.proofs.Readied.{longer_reads, not_longer, nothing_reads, part_stays, short_reads}
use Rattle.bigwig.proofs.readying.ready_for.Goals as goal

pub returns-in-Nothing-clause-read : goal.returns-in-Nothing-clause-read
returns-in-Nothing-clause-read c =
    nothing_reads c.args.brought.server.world.service c.args.brought.server.formats c.args.text.now c.args.rotate c.args.brought.server.world
    c.args.brought.found c.headed.result c.in-Nothing.is c.headed.ensures.read

pub returns-then-is_longer-clause-read : goal.returns-then-is_longer-clause-read
returns-then-is_longer-clause-read c =
    longer_reads c.args.brought.server.world.service c.args.brought.server.formats c.args.text.now c.args.rotate c.args.brought.server.world
    c.args.brought.found c.in-Entries.len c.in-Entries.sum c.renewed.result c.in-Entries.is (c.is_longer.ensures.0 c.if-is_longer.true)
    c.renewed.ensures.read

pub returns-else-is_longer-clause-read : goal.returns-else-is_longer-clause-read
returns-else-is_longer-clause-read c =
    short_reads c.args.brought.server.world.service c.args.brought.server.formats c.args.text.now c.args.rotate c.args.brought.server.world
    c.args.brought.found c.in-Entries.len c.in-Entries.sum c.in-Entries.is
    (not_longer c.is_longer.result c.args.rotate c.in-Entries.len c.is_longer.ensures c.if-is_longer.false)

pub returns-in-Nothing-clause-service : goal.returns-in-Nothing-clause-service
returns-in-Nothing-clause-service c =
    part_stays (λ r. r.server) (λ s. s.world.service) c.args.brought.server c.args.brought.server.world.service c.headed.result c.headed.ensures.server refl

pub returns-in-Nothing-clause-formats : goal.returns-in-Nothing-clause-formats
returns-in-Nothing-clause-formats c =
    part_stays (λ r. r.server) (λ s. s.formats) c.args.brought.server c.args.brought.server.formats c.headed.result c.headed.ensures.server refl

pub returns-then-is_longer-clause-service : goal.returns-then-is_longer-clause-service
returns-then-is_longer-clause-service c =
    part_stays (λ r. r.server.world) (λ w. w.service) c.args.brought.server.world c.args.brought.server.world.service c.renewed.result
    c.renewed.ensures.world refl

pub returns-then-is_longer-clause-formats : goal.returns-then-is_longer-clause-formats
returns-then-is_longer-clause-formats c = c.renewed.ensures.formats

pub returns-else-is_longer-clause-service : goal.returns-else-is_longer-clause-service
returns-else-is_longer-clause-service c = refl

pub returns-else-is_longer-clause-formats : goal.returns-else-is_longer-clause-formats
returns-else-is_longer-clause-formats c = refl
