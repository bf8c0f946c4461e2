use Rattle.std.proofs.Common.{sym, subst}
use Rattle.bw_run.specs.Fit.{AreShared}
use Rattle.bw_world.specs.Seen.{Seen}
use Rattle.bw_world.proofs.Keeping.{kept_shared}
use Rattle.bw_world.proofs.state.State.pass.Goals as goal

pub invariant_of-self : goal.invariant_of-self
invariant_of-self c =
    let w = c.self.inside in
    let v : Seen = record { service = w.checked.typed.service; shared = w.shared; next = w.next; first = w.first; live = w.live.entries } in
    let fit = subst (λ (z : Seen). AreShared z.service c.args.shared) (sym c.self.view_is) c.requires in
    (c.self.invariant.0, kept_shared v c.self.invariant.1 c.args.shared fit)
