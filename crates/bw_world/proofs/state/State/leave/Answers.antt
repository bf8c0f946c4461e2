use Rattle.std.proofs.Common.{refl}
use Rattle.bw_world.specs.Seen.{Seen}
use Rattle.bw_world.proofs.Keeping.{keeps_others}
use Rattle.bw_world.proofs.state.State.leave.Goals as goal

pub invariant_of-self : goal.invariant_of-self
invariant_of-self c =
    let w = c.self.inside in
    let v : Seen = record { service = w.checked.typed.service; shared = w.shared; next = w.next; first = w.first; live = w.live.entries } in
    keeps_others v c.args.self.now c.self.view_is c.self.invariant.1 c.args.shared c.requires w.live c.pop.new.self c.self.invariant.0 c.args.number
    c.pop.ensures.entries refl
