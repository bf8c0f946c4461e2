use Rattle.std.proofs.Common.{◌≡◌}
use Rattle.std.specs.Io.KnownBytes.{Keeps}
use Rattle.bw_door.proofs.leaving.Leaving.drop_rest.Given as goal

abbrev pub invariant-reads : goal.invariant-reads
invariant-reads g l =
    Keeps (g.S.Write.contents l.initial.self.socket.stream) (g.S.Write.contents l.self.socket.stream)
    × (l.self.reply ≡ l.initial.self.reply) × (l.self.count ≡ l.initial.self.count)
