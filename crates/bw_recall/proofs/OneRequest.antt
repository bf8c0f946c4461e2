-- The request of one entry is handled.
use Rattle.std.proofs.Common.{◌≡◌, ℕ, List, [], Option, Some, None, Err, refl, sym, subst, inl, inr}
use Rattle.bw_format.specs.declared.format.Format.{Format}
use Rattle.bw_http.specs.Cuts.{Tells}
use Rattle.bw_http.specs.declared.replies.Reply.{Reply}
use Rattle.bw_http.specs.declared.replies.Reply.TheVariants as replies
use Rattle.bw_http.specs.declared.request.ReadOutcome.{ReadOutcome}
use Rattle.bw_http.specs.declared.request.ReadOutcome.TheVariants as outcomes
use Rattle.bw_http.specs.declared.request.Request.{Request}
use Rattle.bw_model.specs.Guards.{FirstOutside, IsGuarded, guarded_by, stored}
use Rattle.bw_model.specs.Sessions.{World}
use Rattle.bw_model.specs.Steps.{Step, step}
use Rattle.bw_world.specs.Handled.{EndsBy, Handles}
use Rattle.bw_world.specs.Seen.{Seen}
use Rattle.bw_world.specs.Stands.{StandsFor}
use Rattle.bw_bringing.specs.Bringing.{Sends}
use Rattle.bw_bringing.proofs.Messages.{refused}
use Rattle.bw_recall.specs.Recalling.{Handled, IsHandledOne, IsOne, IsWhole}
use Rattle.bw_recall.specs.declared.handling.One.{One}
use Rattle.bw_recall.specs.declared.handling.One.TheVariants as ones

module _ (formats : List Format) (before now : Seen) (r : Request) (key : ℕ) (reply : Reply) (steps later : ℕ) (never : reply ≡ replies.Memory → ⊥)
    (m : World) (stood : StandsFor before m) where
  abbrev taken : Step
  taken = step before.service m r key

  by_first : (first : Option (List ℕ)) → FirstOutside formats r.form (stored before.service m r) first → EndsBy before now reply steps later taken first
      → (s : Step) × IsGuarded formats before.service m r key s × StandsFor now s.world
  by_first None is (inl k) = absurd (never k.reply)
  by_first None is (inr k) = (taken, record { first = None; is_first = is; is_step = refl }, k.world)
  by_first (Some field) is k = (
    guarded_by before.service m taken (Some field),
    record { first = Some field; is_first = is; is_step = refl },
    subst (λ (w : Seen). StandsFor w m) (sym k.world) stood,
  )

pub handled : (formats : List Format) (before now : Seen) (r : Request) (key : ℕ) (reply : Reply) (steps later : ℕ)
    → Handles formats before now r key reply steps later → (reply ≡ replies.Memory → ⊥) → Handled formats before now r key
handled formats before now r key reply steps later handles never m stood =
    let h = handles m stood in by_first formats before now r key reply steps later never m stood h.first h.is_first h.ends

-- of the request that a message sends
pub one_of : (formats : List Format) (before now : Seen) (key : ℕ) (message : List ℕ) (r : Request) (one : One) → Sends message r
    → IsHandledOne formats before now r key one → IsOne formats before now key message one
one_of formats before now key message r ones.Done s h = (r, s, h)
one_of formats before now key message r ones.NoRequest s h = absurd h
one_of formats before now key message r ones.Memory s h = h

pub none_of : (formats : List Format) (w : Seen) (key : ℕ) (message : List ℕ) (one : One) → IsWhole message (Err one) → IsOne formats w w key message one
none_of formats w key message ones.Done h = absurd h
none_of formats w key message ones.NoRequest h = (h, refl)
none_of formats w key message ones.Memory h = refl

-- what comes of an outcome that is no request
pub without : (message now : List ℕ) (told : Option (List ℕ)) (o : ReadOutcome) (one : One) → Tells (Some message) told [] (Err o) now
    → (one ≡ ones.NoRequest → (o ≡ outcomes.Memory → ⊥) × (o ≡ outcomes.ReadFault → ⊥)) → (one ≡ ones.Done → ⊥) → IsWhole message (Err one)
without message now told o ones.Done tells none never = never refl
without message now told o ones.NoRequest tells none never = let n = none refl in refused message now told o tells n.0 n.1
without message now told o ones.Memory tells none never = tt
