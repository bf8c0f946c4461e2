use Rattle.std.proofs.Common.{ap, sym, ◌∙◌, subst}
use Rattle.std.specs.Prelude.{option_copied}
use Rattle.bw_world.specs.Kept.{IsSuspended}
use Rattle.bw_world.specs.Seen.{Seen, found}
use Rattle.bw_world.proofs.Keeping.{looked}
use Rattle.bw_world.proofs.Live.{found_it, found_other, found_none}
use Rattle.bw_world.proofs.state.State.get.Goals as goal

pub returns-in_err-one-clause-found : goal.returns-in_err-one-clause-found
returns-in_err-one-clause-found c =
    let w = c.self.inside in
    ap option_copied c.from_residual.ensures ∙ found_none c.args.number c.args.key w.next w.live.entries c.self.invariant.1.apart c.in_err-one.ensures
    ∙ ap (λ (z : Seen). found c.args.number c.args.key z.live) c.self.view_is

pub returns-then-one-key-clause-found : goal.returns-then-one-key-clause-found
returns-then-one-key-clause-found c =
    let w = c.self.inside in
    found_it c.args.number c.args.key w.next w.live.entries c.self.invariant.1.apart c.in_ok-one.one.now c.in_ok-one.ensures c.if-one-key.true
    ∙ ap (λ (z : Seen). found c.args.number c.args.key z.live) c.self.view_is

pub returns-then-one-key-clause-fit : goal.returns-then-one-key-clause-fit
returns-then-one-key-clause-fit c =
    let w = c.self.inside in
    let k = c.self.invariant.1 in
    subst (λ (z : Seen). IsSuspended z.service c.in_ok-one.one.now) c.self.view_is
    (looked w.checked.typed.service c.args.number w.next w.live.entries k.apart k.sessions c.in_ok-one.one.now (sym c.in_ok-one.ensures)).suspended

pub returns-else-one-key-clause-found : goal.returns-else-one-key-clause-found
returns-else-one-key-clause-found c =
    let w = c.self.inside in
    found_other c.args.number c.args.key w.next w.live.entries c.self.invariant.1.apart c.in_ok-one.one.now c.in_ok-one.ensures c.if-one-key.false
    ∙ ap (λ (z : Seen). found c.args.number c.args.key z.live) c.self.view_is
