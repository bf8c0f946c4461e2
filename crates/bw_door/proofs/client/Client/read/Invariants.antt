use Rattle.std.specs.Io.KnownBytes.{Keeps}
use Rattle.bw_door.specs.Flows.{sent_by}
use Rattle.bw_door.proofs.client.Client.read.Given as goal

abbrev pub invariant-reads : goal.invariant-reads
invariant-reads g l =
    Keeps (sent_by l.initial.self.inbox.items (g.S.Read.remaining l.initial.self.socket.stream))
    (sent_by l.self.inbox.items (g.S.Read.remaining l.self.socket.stream))
