-- The show at which a turn waits is one of its session.
use Rattle.std.proofs.Common.{◌≡◌, ℕ, ◌<◌, List, [], length, Option, Some, None, Ok, refl, sym, ap, subst}
use Rattle.std.specs.Prelude.{slice_get, IsSome}
use Rattle.bw_lang.specs.declared.service.Service.{Service}
use Rattle.bw_types.specs.declared.typed.Typed.{Typed}
use Rattle.bw_doc.specs.Made.{Made}
use Rattle.bw_eval.specs.declared.value.Value.{Value}
use Rattle.bw_eval.specs.View.{document, values}
use Rattle.bw_flow.specs.Layout.{plan_of, flow_of}
use Rattle.bw_run.specs.Follow.Laws.{IsOf}
use Rattle.bw_run.proofs.Follow.Fit.{shown_is_fit, shown_again_is_fit}
use Rattle.bw_run.proofs.Follow.Kept.{typed_is_ready}
use Rattle.bw_meaning.specs.GoOn.{turn, go_on}
use Rattle.bw_meaning.specs.States.{Form, Input}
use Rattle.bw_meaning.specs.Values.{Values}
use Rattle.bw_run.specs.declared.turn.Frame.{Frame}
use Rattle.bw_run.specs.declared.turn.Turn.TheVariants as turns
use Rattle.bw_run.specs.Fit.{IsFrame}
use Rattle.bw_run.specs.Turns.{turned, answered_frame}
use Rattle.bw_run.specs.Walks.{number_of, number_at}
use Rattle.bw_run.proofs.Fits.{has_first, names_from}

no_input : Input
no_input = record { form = []; shared = [] }

module _ (f : Frame) (d : Made) (after : List (List ℕ × Value)) (units : ℕ) where
  -- so for a first turn
  first_of_typed : (typed : Typed) (session : ℕ) (shared : Values) → session < length typed.service.sessions →
      turned (flow_of typed.service) (Ok (turns.Shown f d after)) units ≡ turn typed.service session shared [] →
      IsOf typed.service session (number_at (flow_of typed.service) f.point)
  first_of_typed typed session shared lt e =
      by (slice_get (plan_of typed.service).firsts session) refl (has_first typed (plan_of typed.service) session refl lt)
    where
      by : (o : Option ℕ) → slice_get (plan_of typed.service).firsts session ≡ o → IsSome o
          → IsOf typed.service session (number_at (flow_of typed.service) f.point)
      by None at h = absurd (cc)
      by (Some first) at h =
          (shown_is_fit typed.service session first shared [] no_input (number_at (flow_of typed.service) f.point) (values f.locals) f.rests (document d)
          (values after) units (typed_is_ready typed) at (sym e)).7

  pub first_own : (typed : Typed) (service : Service) → typed.service ≡ service → (session : ℕ) (shared : Values) → session < length service.sessions →
      turned (flow_of service) (Ok (turns.Shown f d after)) units ≡ turn service session shared []
      → IsOf service session (number_at (flow_of service) f.point)
  first_own typed service is session shared =
      subst (λ v. session < length v.sessions → turned (flow_of v) (Ok (turns.Shown f d after)) units ≡ turn v session shared [] →
      IsOf v session (number_at (flow_of v) f.point)) is (first_of_typed typed session shared)

  -- and for a later one
  later_of_typed : (typed : Typed) (session : ℕ) (old : Frame) (form : Form) (shared : List (List ℕ × Value)) →
      IsFrame typed.service (flow_of typed.service) old → IsOf typed.service session (number_at (flow_of typed.service) old.point) →
      turned (flow_of typed.service) (Ok (turns.Shown f d after)) units ≡ go_on typed.service session
      (answered_frame (flow_of typed.service) old form shared) →
      IsOf typed.service session (number_at (flow_of typed.service) f.point)
  later_of_typed typed session old form shared fit own e =
      let a = answered_frame (flow_of typed.service) old form shared in
      let number : number_at (flow_of typed.service) old.point ≡ fit.point.number = ap number_of fit.is in
      (shown_again_is_fit typed.service session old.point fit.point fit.page fit.fields a no_input (number_at (flow_of typed.service) f.point)
      (values f.locals) f.rests (document d) (values after) units (typed_is_ready typed) fit.is fit.acts
      (record { number = number; names = names_from (values old.locals) fit.point.scope fit.locals.kinds_are; rests = fit.rests })
      (subst (IsOf typed.service session) number own) (sym e)).7

  pub later_own : (typed : Typed) (service : Service) → typed.service ≡ service → (session : ℕ) (old : Frame) (form : Form) (shared : List (List ℕ × Value)) →
      IsFrame service (flow_of service) old → IsOf service session (number_at (flow_of service) old.point) →
      turned (flow_of service) (Ok (turns.Shown f d after)) units ≡ go_on service session (answered_frame (flow_of service) old form shared) →
      IsOf service session (number_at (flow_of service) f.point)
  later_own typed service is session old form shared =
      subst (λ v. IsFrame v (flow_of v) old → IsOf v session (number_at (flow_of v) old.point) →
      turned (flow_of v) (Ok (turns.Shown f d after)) units ≡ go_on v session (answered_frame (flow_of v) old form shared) →
      IsOf v session (number_at (flow_of v) f.point)) is (later_of_typed typed session old form shared)
