-- What turns are, by the parts of a world.
use Rattle.std.proofs.Common.{◌≡◌, ℕ, ◌<◌, List, [], length, Ok, Err, ap, subst}
use Rattle.std.specs.Prelude.{Result, IfOk}
use Rattle.bw_lang.specs.declared.turn.TurnFault.{TurnFault}
use Rattle.bw_types.specs.declared.typed.Typed.{Typed}
use Rattle.bw_doc.specs.Made.{Made}
use Rattle.bw_eval.specs.declared.value.Value.{Value}
use Rattle.bw_eval.specs.Evaluations.{HasMemory}
use Rattle.bw_eval.specs.View.{values}
use Rattle.bw_flow.specs.Layout.{plan_of, flow_of}
use Rattle.bw_flow.specs.Steps.{Plan}
use Rattle.bw_meaning.specs.GoOn.{turn, go_on}
use Rattle.bw_meaning.specs.States.{Form, units_left}
use Rattle.bw_run.specs.declared.turn.Frame.{Frame}
use Rattle.bw_run.specs.declared.turn.Turn.{Turn}
use Rattle.bw_run.specs.declared.turn.Turn.TheVariants as turns
use Rattle.bw_run.specs.Fit.{IsFitTurn}
use Rattle.bw_run.specs.Turns.{IsTurn, answered_frame}
use Rattle.bw_world.specs.declared.suspended.Suspended.{Suspended}
use Rattle.bw_world.specs.Changes.{begun, went_on}
use Rattle.bw_world.specs.Kept.{IsOwn, IsSuspended}
use Rattle.bw_world.specs.Seen.{Seen}
use Rattle.bw_world.proofs.Own.{first_own, later_own}

module _ (w : Seen) (typed : Typed) (flow : Plan) (shared : List (List ℕ × Value)) (is : typed.service ≡ w.service)
    (lowered : flow ≡ plan_of typed.service) (same : shared ≡ w.shared) where
  abbrev steps_are : flow.steps ≡ flow_of typed.service
  steps_are = ap (λ (p : Plan). p.steps) lowered

  pub first_is : (session a b : ℕ) (r : Result Turn TurnFault) → IsTurn flow.steps r a b (turn typed.service session (values shared) [])
      → IsTurn (flow_of w.service) r a b (turn w.service session (values w.shared) [])
  first_is session a b r t =
      subst (λ s. IsTurn (flow_of w.service) r a b (turn w.service session (values s) [])) same
      (subst (λ v. IsTurn (flow_of v) r a b (turn v session (values shared) [])) is
      (subst (λ f. IsTurn f r a b (turn typed.service session (values shared) [])) steps_are t))

  pub next_is : (s : Suspended) (form : Form) (a b : ℕ) (r : Result Turn TurnFault)
      → IsTurn flow.steps r a b (go_on typed.service s.session (answered_frame flow.steps s.frame form shared))
      → IsTurn (flow_of w.service) r a b (go_on w.service s.session (answered_frame (flow_of w.service) s.frame form w.shared))
  next_is s form a b r t =
      subst (λ x. IsTurn (flow_of w.service) r a b (go_on w.service s.session (answered_frame (flow_of w.service) s.frame form x))) same
      (subst (λ v. IsTurn (flow_of v) r a b (go_on v s.session (answered_frame (flow_of v) s.frame form shared))) is
      (subst (λ f. IsTurn f r a b (go_on typed.service s.session (answered_frame f s.frame form shared))) steps_are t))

  pub fit_is : (r : Result Turn TurnFault) → IfOk r (IsFitTurn typed.service flow.steps) → IfOk r (IsFitTurn w.service (flow_of w.service))
  fit_is r h =
      subst (λ v. IfOk r (IsFitTurn v (flow_of v))) is (subst (λ f. IfOk r (IsFitTurn typed.service f)) steps_are h)

module _ (w : Seen) (typed : Typed) (is : typed.service ≡ w.service) (a b : ℕ) where
  pub first_owns : (session : ℕ) → session < length w.service.sessions → (r : Result Turn TurnFault)
      → (HasMemory r → IsTurn (flow_of w.service) r a b (turn w.service session (values w.shared) [])) → IfOk r (IsOwn w.service session)
  first_owns session lt (Ok (turns.Shown f d after)) t =
      first_own f d after (units_left (turn w.service session (values w.shared) [])) typed w.service is session (values w.shared) lt (t tt).outcome
  first_owns session lt (Ok (turns.Exited d after)) t = tt
  first_owns session lt (Err f) t = tt

  pub next_owns : (s : Suspended) (form : Form) → IsSuspended w.service s → (r : Result Turn TurnFault)
      → (HasMemory r → IsTurn (flow_of w.service) r a b (go_on w.service s.session (answered_frame (flow_of w.service) s.frame form w.shared)))
      → IfOk r (IsOwn w.service s.session)
  next_owns s form fit (Ok (turns.Shown f d after)) t =
      later_own f d after (units_left (go_on w.service s.session (answered_frame (flow_of w.service) s.frame form w.shared))) typed w.service is s.session
      s.frame form w.shared fit.frame fit.own (t tt).outcome
  next_owns s form fit (Ok (turns.Exited d after)) t = tt
  next_owns s form fit (Err f) t = tt

-- a session that waits behind a turn
module _ (w : Seen) (f : Frame) (d : Made) (after : List (List ℕ × Value)) where
  pub begun_fit : (key session : ℕ) (t : Turn) → t ≡ turns.Shown f d after → IsFitTurn w.service (flow_of w.service) t → IsOwn w.service session t
      → IsSuspended w.service (begun w key session f d)
  begun_fit key session t e fit own =
      let k = subst (IsFitTurn w.service (flow_of w.service)) e fit in
      record { frame = k.0; page = k.1; own = subst (IsOwn w.service session) e own }

  pub went_fit : (s : Suspended) (t : Turn) → t ≡ turns.Shown f d after → IsFitTurn w.service (flow_of w.service) t → IsOwn w.service s.session t
      → IsSuspended w.service (went_on s f d)
  went_fit s t e fit own =
      let k = subst (IsFitTurn w.service (flow_of w.service)) e fit in
      record { frame = k.0; page = k.1; own = subst (IsOwn w.service s.session) e own }
