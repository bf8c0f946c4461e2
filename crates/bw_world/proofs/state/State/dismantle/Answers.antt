use Rattle.bw_world.proofs.Restored.{apart_numbered}
use Rattle.bw_world.proofs.state.State.dismantle.Goals as goal

pub sessions_of-requires : goal.sessions_of-requires
sessions_of-requires c = apart_numbered c.self.inside.next c.self.inside.live.entries c.self.invariant.1.apart
