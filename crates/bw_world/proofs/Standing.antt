-- What follows from a world's standing for a model world.
use Rattle.std.proofs.Common.{◌≡◌, ◌≢◌, ◌⊎◌, ℕ, zero, suc, List, [], ◌∷◌, take, Err, refl, sym, ap, ◌∙◌, subst, inl, inr, arith}
use Rattle.bw_eval.specs.Evaluations.{HasMemory}
use Rattle.bw_http.specs.declared.replies.Reply.{Reply}
use Rattle.bw_http.specs.declared.replies.Reply.TheVariants as replies
use Rattle.bw_http.specs.Replies.{IsReply}
use Rattle.bw_lang.specs.declared.service.Service.{Service}
use Rattle.bw_lang.specs.declared.turn.TurnFault.{TurnFault}
use Rattle.bw_lang.specs.declared.turn.TurnFault.TheVariants as faults
use Rattle.bw_model.specs.Sessions.{Live, World}
use Rattle.bw_model.specs.Steps.{Step, refuses}
use Rattle.bw_run.specs.declared.turn.Turn.{Turn}
use Rattle.bw_world.specs.declared.suspended.Suspended.{Suspended}
use Rattle.bw_world.specs.Changes.{Either, failure}
use Rattle.bw_world.specs.Seen.{Seen}
use Rattle.bw_world.specs.Stands.{AllStand, StandsFor, Ends, Rises, Stays, Steps, Handles, fields_of, model}

-- the first of them stand for the first ones
pub take_stands : (service : Service) (first n : ℕ) (live : List (ℕ × Suspended)) (ls : List Live) → AllStand service first live ls
    → AllStand service first (take n live) (take n ls)
take_stands service first zero live ls h = tt
take_stands service first (suc n) [] [] h = tt
take_stands service first (suc n) [] (l ∷ ls) h = absurd h
take_stands service first (suc n) (x ∷ live) [] h = absurd h
take_stands service first (suc n) (x ∷ live) (l ∷ ls) h = (h.0, take_stands service first n live ls h.1)

-- a world that stands for a model world determines it but for the live sessions
pub model_is : (w : Seen) (m : World) → StandsFor w m → model w m.live ≡ m
model_is w m h = λ i. record { shared = h.shared i; next = h.next i; first = h.first i; live = m.live }

-- a fault is want of memory, or the turn's own
pub fault_cases : (f : TurnFault) → (f ≡ faults.Memory) ⊎ (HasMemory {A = Turn} (Err f) × (failure f ≡ replies.Failed f))
fault_cases faults.Spent = inr (tt, refl)
fault_cases faults.DivideByZero = inr (tt, refl)
fault_cases faults.Overflow = inr (tt, refl)
fault_cases (faults.StringTooLong n) = inr (tt, refl)
fault_cases (faults.Heavy n) = inr (tt, refl)
fault_cases (faults.Deep n) = inr (tt, refl)
fault_cases (faults.Nested n) = inr (tt, refl)
fault_cases (faults.PageTooLong n) = inr (tt, refl)
fault_cases (faults.SessionHeavy n) = inr (tt, refl)
fault_cases (faults.SharedHeavy n) = inr (tt, refl)
fault_cases faults.Memory = inl refl

module _ (w : Seen) (ls : List Live) (h : AllStand w.service w.first w.live ls) (new : Seen) (reply : Reply) (a b : ℕ) where
  pub itself : StandsFor w (model w ls)
  itself = record { shared = refl; next = refl; first = refl; live = h }

  pub wanted : (step : Step) → reply ≡ replies.Memory → new ≡ w → Rises a b → Ends w new reply a b step
  wanted step e n rises = inl (record { reply = e; world = n; rises = rises })

  pub unchanged : (x : Reply) → reply ≡ x → new ≡ w → b ≡ a → Ends w new reply a b (refuses (model w ls) x)
  unchanged x e n k = inr (record { reply = e; world = subst (λ z. StandsFor z (model w ls)) (sym n) itself; cost = omega (arith, k) })

-- ---- whatever the world stands for

-- nothing was done but to answer this
pub stayed : (w : Seen) (reply : Reply) (a b : ℕ) → IsReply (fields_of w.service) reply → Rises a b → Stays w w reply a b
stayed w reply a b is rises = record { service = refl; memory = λ e. refl; reply = is; rises = rises }

-- a page was sent, or there was no memory for it
pub paged : (w new : Seen) (reply due : Reply) (then : Seen) (a b : ℕ) → due ≢ replies.Memory → IsReply (fields_of w.service) due → then.service ≡ w.service
    → Rises a b
    → Either w new reply due then → Stays w new reply a b
paged w new reply due then a b differs is same rises (inl x) =
    record { service = ap (λ (z : Seen). z.service) x.1; memory = λ e. x.1; reply = subst (IsReply (fields_of w.service)) (sym x.0) tt; rises = rises }
paged w new reply due then a b differs is same rises (inr x) =
    record {
      service = ap (λ (z : Seen). z.service) x.1 ∙ same;
      memory = λ e. absurd (differs (sym x.0 ∙ e));
      reply = subst (IsReply (fields_of w.service)) (sym x.0) is;
      rises = rises;
    }

pub failure_is_reply : (names : List (List ℕ)) (f : TurnFault) → IsReply names (failure f)
failure_is_reply names faults.Spent = λ e. cc
failure_is_reply names faults.DivideByZero = λ e. cc
failure_is_reply names faults.Overflow = λ e. cc
failure_is_reply names (faults.StringTooLong n) = λ e. cc
failure_is_reply names (faults.Heavy n) = λ e. cc
failure_is_reply names (faults.Deep n) = λ e. cc
failure_is_reply names (faults.Nested n) = λ e. cc
failure_is_reply names (faults.PageTooLong n) = λ e. cc
failure_is_reply names (faults.SessionHeavy n) = λ e. cc
failure_is_reply names (faults.SharedHeavy n) = λ e. cc
failure_is_reply names faults.Memory = tt

-- ---- for each model world

-- what holds for each list of live sessions holds for each model world
pub handles : (old new : Seen) (reply : Reply) (a b : ℕ) (step : World → Step) → Steps old new reply a b step → Handles old new reply a b step
handles old new reply a b step all m h = subst (λ z. Ends old new reply a b (step z)) (model_is old m h) (all m.live h.live)
