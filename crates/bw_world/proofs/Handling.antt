-- A request with formats does what its step with formats does.
use Rattle.std.proofs.Common.{◌≡◌, inl, inr, ℕ, List, Option, Some, None, refl, sym, ap, ◌∙◌, subst}
use Rattle.std.specs.Option.{option_map}
use Rattle.bw_format.specs.declared.format.Format.{Format}
use Rattle.bw_model.specs.Guards.{FirstOutside, stored, guarded_by, outside_reply}
use Rattle.bw_model.specs.Within.{AreWithin}
use Rattle.bw_model.proofs.Deciding.{one_first}
use Rattle.bw_model.proofs.Storing.{steps_keep_within}
use Rattle.bw_http.specs.declared.replies.Reply.{Reply}
use Rattle.bw_http.specs.declared.request.Request.{Request}
use Rattle.bw_model.specs.Received.{number_of_field}
use Rattle.bw_model.specs.Sessions.{World}
use Rattle.bw_model.specs.Steps.{Step, step}
use Rattle.bw_sound.specs.Good.{IsGood}
use Rattle.bw_world.specs.Good as good
use Rattle.bw_world.specs.Seen.{Seen}
use Rattle.bw_world.specs.Stands as world
use Rattle.bw_world.specs.Stands.{StandsFor}
use Rattle.bw_world.specs.Away.{IsAway}
use Rattle.bw_world.specs.Handled.{EndsBy, Handles, IsGoodReply, KeepsWithin}

module _ (number : List ℕ → ℕ) where
  no_field : (first : Option (List ℕ)) → None ≡ option_map number first → first ≡ None
  no_field None e = refl
  no_field (Some w) e = cc

  a_field : (f : ℕ) (first : Option (List ℕ)) → Some f ≡ option_map number first → (w : List ℕ) × (first ≡ Some w) × (f ≡ number w)
  a_field f None e = cc
  a_field f (Some w) e = (w, refl, cc)

module _ (formats : List Format) (old : Seen) (request : Request) (key : ℕ) where
  -- the form is turned away
  pub turned_away : (field a : ℕ) → IsAway old formats request (Some field) → Handles formats old old request key (outside_reply field) a a
  turned_away field a away m stands =
      let k = away m stands in
      let f = a_field (number_of_field old.service) field k.first k.is in
      record {
        first = Some f.0;
        is_first = subst (FirstOutside formats request.form (stored old.service m request)) f.1 k.is_first;
        ends = record { reply = ap outside_reply f.2; world = refl; cost = refl };
      }

  module _ (new : Seen) (reply : Reply) (a b : ℕ) where
    abbrev IsStep : Type 0
    IsStep = world.Handles old new reply a b (λ m. step old.service m request key)

    -- none is outside, and the step is taken
    pub taken_on : IsAway old formats request None → IsStep → Handles formats old new request key reply a b
    taken_on away handles m stands =
        let k = away m stands in
        record {
          first = None;
          is_first = subst (FirstOutside formats request.form (stored old.service m request)) (no_field (number_of_field old.service) k.first k.is) k.is_first;
          ends = handles m stands;
        }

    pub good_reply : IsAway old formats request None → good.IsGoodReply old request key reply → IsGoodReply formats old request key reply
    good_reply away good schema m s accepts stands sound guarded =
        let k = away m stands in
        let none = one_first formats request.form (stored old.service m request) guarded.first k.first guarded.is_first k.is_first
        ∙ no_field (number_of_field old.service) k.first k.is in
        let same : s ≡ step old.service m request key = guarded.is_step ∙ ap (guarded_by old.service m (step old.service m request key)) none in
        subst (λ (x : Step). IsGood old.service schema m x.world reply) (sym same) (good schema m accepts stands sound)

    pub keeps_within : Handles formats old new request key reply a b → KeepsWithin formats old new
    keeps_within handles m stands all = by (handles m stands).first (handles m stands).is_first (handles m stands).ends
      where
        stays : new ≡ old → (then : World) × StandsFor new then × AreWithin formats old.service then
        stays e = (m, subst (λ z. StandsFor z m) (sym e) stands, all)

        by : (first : Option (List ℕ)) → FirstOutside formats request.form (stored old.service m request) first
            → EndsBy old new reply a b (step old.service m request key) first
            → (then : World) × StandsFor new then × AreWithin formats old.service then
        by (Some field) is ends = stays ends.world
        by None is (inl wants) = stays wants.world
        by None is (inr takes) = (
          (step old.service m request key).world,
          takes.world,
          steps_keep_within formats old.service m request key (step old.service m request key) all (record { first = None; is_first = is; is_step = refl }),
        )
