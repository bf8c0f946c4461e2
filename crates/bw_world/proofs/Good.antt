-- The replies of a world are good, and it stays sound.
use Rattle.std.proofs.Common.{◌≡◌, ℕ, sym, subst, inl, inr}
use Rattle.std.proofs.Math.Logic.{∥∥₁_map, ∥∥₁_map₂}
use Rattle.bw_analyse.specs.declared.facts.Facts.{Facts}
use Rattle.bw_check.specs.Accepts.{Accepts, IsAccepted}
use Rattle.bw_http.specs.declared.replies.Reply.{Reply}
use Rattle.bw_http.specs.declared.request.Request.{Request}
use Rattle.bw_lang.specs.Service.Submissions.{IsTextForm}
use Rattle.bw_model.specs.Sessions.{World, empty}
use Rattle.bw_model.specs.Steps.{step}
use Rattle.bw_schema.specs.declared.schema.Schema.{Schema}
use Rattle.bw_sound.specs.Good.{IsGood}
use Rattle.bw_sound.specs.Worlds.{IsSoundWorld}
use Rattle.bw_sound.proofs.Runs.{empty_is_sound, steps_keep_sound, next_is_good}
use Rattle.bw_types.specs.declared.typed.Typed.{Typed}
use Rattle.bw_world.specs.Good.{IsSound, IsGoodReply, HasGoodReply}
use Rattle.bw_world.specs.Seen.{Seen}
use Rattle.bw_world.specs.Stands.{StandsFor, Ends, Handles}

-- the world in which nothing was requested yet
pub begins_sound : (t : Typed) (schema : Schema) (facts : Facts) (w : Seen) (next first : ℕ) → ∥ IsAccepted t.service schema facts ∥₁ → w.service ≡ t.service
    → StandsFor w (record (empty t.service) { next = next; first = first }) → ∥ IsSound w ∥₁
begins_sound t schema facts w next first accepted is stands = ∥∥₁_map accepted (λ a. record {
  model = record (empty t.service) { next = next; first = first };
  stands = stands;
  sound = subst (λ s. IsSoundWorld s (record (empty t.service) { next = next; first = first })) (sym is)
      (empty_is_sound t schema next first (facts, a));
})

-- a step keeps it sound, and so does want of memory
module _ (old new : Seen) (request : Request) (key : ℕ) (reply : Reply) (a b : ℕ) (same : new.service ≡ old.service) (text : IsTextForm request.form)
    (handles : Handles old new reply a b (λ m. step old.service m request key)) where
  stays_sound : (schema : Schema) → Accepts old.service schema → IsSound old → IsSound new
  stays_sound schema accepts s = by_end (handles s.model s.stands)
    where
      by_end : Ends old new reply a b (step old.service s.model request key) → IsSound new
      by_end (inl wants) = subst IsSound (sym wants.world) s
      by_end (inr takes) =
          let to = (step old.service s.model request key).world in record {
            model = to;
            stands = takes.world;
            sound = subst (λ u. IsSoundWorld u to) (sym same) (steps_keep_sound old.service schema s.model request key accepts text s.sound);
          }

  pub keeps_sound : (t : Typed) (schema : Schema) (facts : Facts) → t.service ≡ old.service → ∥ IsAccepted t.service schema facts ∥₁ → ∥ IsSound old ∥₁
      → ∥ IsSound new ∥₁
  keeps_sound t schema facts is accepted sound =
      ∥∥₁_map₂ accepted sound (λ x s. stays_sound schema (subst (λ u. Accepts u schema) is (facts, x)) s)

  -- what is answered by a step is good where the step's reply is, since want of memory has no page
  answer_good : (schema : Schema) (m : World) → IsGood old.service schema m (step old.service m request key).world (step old.service m request key).reply
      → Ends old new reply a b (step old.service m request key) → IsGood old.service schema m (step old.service m request key).world reply
  answer_good schema m good (inl wants) = subst (IsGood old.service schema m (step old.service m request key).world) (sym wants.reply) tt
  answer_good schema m good (inr takes) = subst (IsGood old.service schema m (step old.service m request key).world) (sym takes.reply) good

  pub reply_good : IsGoodReply old request key reply
  reply_good schema m accepts stands sound =
      answer_good schema m (next_is_good old.service schema m request key accepts text sound) (handles m stands)

  pub has_good : ∥ IsSound old ∥₁ → HasGoodReply old request key reply
  has_good sound schema accepts = ∥∥₁_map sound (λ s. (s, reply_good schema s.model accepts s.stands s.sound))
