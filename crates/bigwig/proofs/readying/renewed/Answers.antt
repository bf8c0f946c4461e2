use Rattle.std.proofs.Common.{refl}
use Rattle.bw_save.specs.Frozen.{saved_of}
use Rattle.bigwig.proofs.Readied.{again_of, part_stays, renewed_reads, too_much_reads}
use Rattle.bigwig.proofs.readying.renewed.Goals as goal

pub anew-requires-clause-saved : goal.anew-requires-clause-saved
anew-requires-clause-saved c =
    (again_of c.args.server.world.service c.args.text.now (saved_of c.args.server.world) c.in-Ok.frozen.file c.in-Some.saved c.deref.result.now
    c.in-Some.is c.deref.ensures.value c.in-Ok.ensures.some).loads.short

pub returns-in-None-clause-read : goal.returns-in-None-clause-read
returns-in-None-clause-read c =
    too_much_reads c.args.server.formats c.args.text.now c.args.len c.args.sum c.args.server.world c.in-Ok.frozen.world c.in-Ok.frozen.file
    c.in-Ok.ensures.same c.in-None.is c.in-Ok.ensures.none

pub returns-in-Some-clause-read : goal.returns-in-Some-clause-read
returns-in-Some-clause-read c =
    renewed_reads c.args.server.formats c.args.text.now c.deref.result.now c.args.len c.args.sum c.args.server.world c.in-Ok.frozen.world
    c.anew.result c.in-Ok.ensures.same
    (again_of c.args.server.world.service c.args.text.now (saved_of c.args.server.world) c.in-Ok.frozen.file c.in-Some.saved c.deref.result.now
    c.in-Some.is c.deref.ensures.value c.in-Ok.ensures.some) c.anew.ensures.read

pub returns-in-None-clause-world : goal.returns-in-None-clause-world
returns-in-None-clause-world c = c.in-Ok.ensures.same

pub returns-in-None-clause-formats : goal.returns-in-None-clause-formats
returns-in-None-clause-formats c = refl

pub returns-in-Some-clause-world : goal.returns-in-Some-clause-world
returns-in-Some-clause-world c =
    part_stays (λ r. r.server) (λ s. s.world) _ c.args.server.world c.anew.result c.anew.ensures.server c.in-Ok.ensures.same

pub returns-in-Some-clause-formats : goal.returns-in-Some-clause-formats
returns-in-Some-clause-formats c = part_stays (λ r. r.server) (λ s. s.formats) _ c.args.server.formats c.anew.result c.anew.ensures.server refl
