use Rattle.std.proofs.Common.{subst}
use Rattle.bw_model.specs.Steps as model
use Rattle.bw_world.specs.Good.{IsGoodReply, HasGoodReply}
use Rattle.bw_world.specs.Seen.{Seen}
use Rattle.bw_world.specs.Stands.{Handles}
use Rattle.bw_world.proofs.Good.{keeps_sound, reply_good, has_good}
use Rattle.bw_world.proofs.Standing.{handles}
use Rattle.bw_world.proofs.world.World.handle.Goals as goal

pub invariant_of-self : goal.invariant_of-self
invariant_of-self g c =
    let old = c.self.inside.state in
    let checked = c.checked.result.now in
    keeps_sound old c.step.new.self c.args.request.now c.args.key c.step.result c.args.steps.now c.step.new.steps c.step.ensures.stays.service c.as_slice.ensures.utf8
    (handles old c.step.new.self c.step.result c.args.steps.now c.step.new.steps (λ m. model.step old.service m c.args.request.now c.args.key)
    c.step.ensures.step) checked.typed checked.schema checked.facts c.checked.ensures checked.accepted c.self.invariant

pub returns-clause-step : goal.returns-clause-step
returns-clause-step g c =
    let old = c.self.inside.state in
    subst (λ (w : Seen). Handles w c.step.new.self c.step.result c.args.steps.now c.step.new.steps
    (λ m. model.step w.service m c.args.request.now c.args.key)) c.self.view_is
    (handles old c.step.new.self c.step.result c.args.steps.now c.step.new.steps (λ m. model.step old.service m c.args.request.now c.args.key)
    c.step.ensures.step)

pub returns-clause-good : goal.returns-clause-good
returns-clause-good g c =
    let old = c.self.inside.state in
    subst (λ (w : Seen). IsGoodReply w c.args.request.now c.args.key c.step.result) c.self.view_is
    (reply_good old c.step.new.self c.args.request.now c.args.key c.step.result c.args.steps.now c.step.new.steps c.step.ensures.stays.service c.as_slice.ensures.utf8
    (handles old c.step.new.self c.step.result c.args.steps.now c.step.new.steps (λ m. model.step old.service m c.args.request.now c.args.key)
    c.step.ensures.step))

pub returns-clause-pages : goal.returns-clause-pages
returns-clause-pages g c =
    let old = c.self.inside.state in
    subst (λ (w : Seen). HasGoodReply w c.args.request.now c.args.key c.step.result) c.self.view_is
    (has_good old c.step.new.self c.args.request.now c.args.key c.step.result c.args.steps.now c.step.new.steps c.step.ensures.stays.service c.as_slice.ensures.utf8
    (handles old c.step.new.self c.step.result c.args.steps.now c.step.new.steps (λ m. model.step old.service m c.args.request.now c.args.key)
    c.step.ensures.step) c.self.invariant)
