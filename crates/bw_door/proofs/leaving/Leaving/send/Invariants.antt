use Rattle.std.proofs.Common.{◌≡◌, false}
use Rattle.std.specs.Io.KnownBytes.{Keeps}
use Rattle.bw_door.specs.Flows.{sent_to}
use Rattle.bw_door.proofs.leaving.Leaving.send.Given as goal

abbrev pub invariant-writes : goal.invariant-writes
invariant-writes g l =
    Keeps (sent_to (g.S.Write.contents l.initial.self.socket.stream) l.initial.self.count l.initial.self.reply.items)
    (sent_to (g.S.Write.contents l.self.socket.stream) l.self.count l.self.reply.items)
    × (l.self.reply ≡ l.initial.self.reply) × (l.self.told ≡ false)
