use Rattle.std.proofs.Common.{ap, sym, ◌∙◌}
use Rattle.bw_flow.specs.Layout.{plan_of}
use Rattle.bw_types.specs.declared.typed.Typed.{Typed}
use Rattle.bw_world.specs.Seen.{Seen}
use Rattle.bw_world.proofs.Opened.{first_is, first_owns}
use Rattle.bw_world.proofs.state.State.first_turn.Goals as goal

pub returns-clause-turn : goal.returns-clause-turn
returns-clause-turn g c m =
    let is = ap (λ (t : Typed). t.service) c.typed.ensures ∙ ap (λ (z : Seen). z.service) c.self.view_is in
    let lowered = c.flow.ensures ∙ c.self.inside.checked.lowered ∙ ap (λ (t : Typed). plan_of t.service) (sym c.typed.ensures) in
    first_is c.args.self.now c.typed.result.now c.flow.result.now c.self.inside.shared is lowered (ap (λ (z : Seen). z.shared) c.self.view_is)
    c.args.session c.args.steps.now c.start.new.steps c.start.result (c.start.ensures.turn m)

pub returns-clause-own : goal.returns-clause-own
returns-clause-own g c =
    let is = ap (λ (t : Typed). t.service) c.typed.ensures ∙ ap (λ (z : Seen). z.service) c.self.view_is in
    first_owns c.args.self.now c.typed.result.now is c.args.steps.now c.start.new.steps c.args.session c.requires c.start.result
    (returns-clause-turn g c)
