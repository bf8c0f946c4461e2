use Rattle.std.proofs.Common.{ap, sym, ◌∙◌, subst}
use Rattle.bw_flow.specs.Layout.{plan_of, flow_of}
use Rattle.bw_flow.specs.Steps.{Plan}
use Rattle.bw_run.specs.Follow.Laws.{IsOf}
use Rattle.bw_run.specs.Walks.{number_at}
use Rattle.bw_types.specs.declared.typed.Typed.{Typed}
use Rattle.bw_world.specs.Seen.{Seen}
use Rattle.bw_world.proofs.Opened.{next_is, next_owns}
use Rattle.bw_world.proofs.state.State.next_turn.Goals as goal

pub returns-clause-turn : goal.returns-clause-turn
returns-clause-turn g c m =
    let is = ap (λ (t : Typed). t.service) c.typed.ensures ∙ ap (λ (z : Seen). z.service) c.self.view_is in
    let lowered = c.flow.ensures ∙ c.self.inside.checked.lowered ∙ ap (λ (t : Typed). plan_of t.service) (sym c.typed.ensures) in
    let frame = c.args.one.now.frame in
    let own = subst (λ (p : Plan). IsOf c.typed.result.now.service c.args.one.now.session (number_at p.steps frame.point)) (sym lowered)
    (subst (λ v. IsOf v c.args.one.now.session (number_at (flow_of v) frame.point)) (sym is) c.requires.fit.own) in
    next_is c.args.self.now c.typed.result.now c.flow.result.now c.self.inside.shared is lowered (ap (λ (z : Seen). z.shared) c.self.view_is)
    c.args.one.now c.args.form.now c.args.steps.now c.resume.new.steps c.resume.result (c.resume.ensures.turn m c.args.one.now.session own)

pub returns-clause-own : goal.returns-clause-own
returns-clause-own g c =
    let is = ap (λ (t : Typed). t.service) c.typed.ensures ∙ ap (λ (z : Seen). z.service) c.self.view_is in
    next_owns c.args.self.now c.typed.result.now is c.args.steps.now c.resume.new.steps c.args.one.now c.args.form.now c.requires.fit c.resume.result
    (returns-clause-turn g c)
