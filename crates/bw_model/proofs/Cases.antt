-- A step with formats is the step, or nothing.
use Rattle.std.proofs.Common.{◌≤◌, inl, inr, ℕ, List, Option, Some, None, refl, sym, ap, ◌∙◌, subst, arith}
use Rattle.bw_format.specs.declared.format.Format.{Format}
use Rattle.bw_http.specs.declared.request.Request.{Request}
use Rattle.bw_lang.specs.declared.service.Service.{Service}
use Rattle.bw_model.specs.Laws.{is_page, IsWorld}
use Rattle.bw_model.specs.Sessions.{World}
use Rattle.bw_model.specs.Steps.{Step, step}
use Rattle.bw_model.proofs.Kept.{steps_keep_worlds}
use Rattle.bw_model.proofs.Quiet as quiet
use Rattle.bw_model.specs.Guards.{IsGuarded, stored, guarded_by}
use Rattle.bw_model.specs.Answers.{answered}
use Rattle.bw_model.specs.FormatLaws.{SomeStep, OneStep, WithoutFormats, IsStepOrNothing, StepsOrNothing, OthersChangeNothing, StepsAreShort, StepsKeepWorlds}
use Rattle.bw_model.proofs.Deciding.{some_first, one_first, none_outside}

pub some_step : SomeStep
some_step formats service w request key =
    let x = some_first formats request.form (stored service w request) in
    (guarded_by service w (step service w request key) x.0, record { first = x.0; is_first = x.1; is_step = refl })

pub one_step : OneStep
one_step formats service w request key s t h k =
    h.is_step
    ∙ ap (guarded_by service w (step service w request key)) (one_first formats request.form (stored service w request) h.first k.first h.is_first k.is_first)
    ∙ sym k.is_step

pub without_formats : WithoutFormats
without_formats service w request key =
    record { first = None; is_first = none_outside request.form (stored service w request); is_step = refl }

module _ (service : Service) (w : World) (request : Request) (key : ℕ) where
  by_first : (first : Option (List ℕ)) → IsStepOrNothing service w request key (guarded_by service w (step service w request key) first)
  by_first None = record { cases = inl refl }
  by_first (Some field) = record { cases = inr (refl, refl, refl) }

  pub is_step_or_nothing : (formats : List Format) (s : Step) → IsGuarded formats service w request key s → IsStepOrNothing service w request key s
  is_step_or_nothing formats s h = subst (IsStepOrNothing service w request key) (sym h.is_step) (by_first h.first)

pub steps_or_nothing : StepsOrNothing
steps_or_nothing formats service w request key = is_step_or_nothing service w request key formats

pub others_change_nothing : OthersChangeNothing
others_change_nothing formats service w request key s h e =
    elim ((is_step_or_nothing service w request key formats s h).cases) [
      | inl k ↦ ap (λ (x : Step). x.world) k ∙ quiet.others_change_nothing service w request key (ap (λ (x : Step). is_page x.reply) (sym k) ∙ e)
      | inr k ↦ k.1
    ]

pub steps_are_short : StepsAreShort
steps_are_short formats service w request key s h =
    elim ((is_step_or_nothing service w request key formats s h).cases) [
      | inl k ↦ subst (λ (x : Step). x.cost ≤ 100000) (sym k) (quiet.steps_are_short service w request key)
      | inr k ↦ omega (arith, k.2)
    ]

pub steps_keep_worlds_too : StepsKeepWorlds
steps_keep_worlds_too formats service w request key s is h =
    elim ((is_step_or_nothing service w request key formats s h).cases) [
      | inl k ↦ subst (λ (x : Step). IsWorld x.world) (sym k) (steps_keep_worlds (answered service) service w request key is)
      | inr k ↦ subst IsWorld (sym k.1) is
    ]
