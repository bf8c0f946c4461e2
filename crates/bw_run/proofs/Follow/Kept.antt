-- Turns keep kinds.
use Rattle.std.proofs.Common.{◌≡◌, ℕ, ◌+◌, List, [], map, Some, true, sym, ◌∙◌, subst, arith}
use Rattle.std.specs.Prelude.{slice_get, length}
use Rattle.std.proofs.lemmas.List.Elements.{All-weaker}
use Rattle.std.proofs.lemmas.Option.{slice_get_within, same_Some}
use Rattle.bw_lang.specs.Service.Numbers.{first_number}
use Rattle.bw_lang.specs.Service.Term.{Term}
use Rattle.bw_types.specs.declared.typed.Typed.{Typed}
use Rattle.bw_types.specs.Faults.{ends_in_exit}
use Rattle.bw_types.specs.Typing.{IsTypedSession}
use Rattle.bw_flow.specs.declared.point.Received.{Received}
use Rattle.bw_flow.specs.Layout.{after, points, plan_of}
use Rattle.bw_flow.specs.Stands.{IsAt}
use Rattle.bw_flow.specs.Steps.{Step}
use Rattle.bw_flow.specs.Steps as acts
use Rattle.bw_flow.proofs.Nexts.{all_have_nexts}
use Rattle.bw_flow.proofs.OfTyped.{points_are_typed, names_are_scoped}
use Rattle.bw_flow.proofs.Stands.{stands_for_all}
use Rattle.bw_flow.proofs.Ways.{Ends}
use Rattle.bw_meaning.specs.GoOn.{body_of}
use Rattle.bw_meaning.specs.States.{Input, budget}
use Rattle.bw_meaning.specs.Statements.{taken}
use Rattle.bw_meaning.specs.Values.{Values}
use Rattle.bw_typed.proofs.OneKind.{sessions_are_typed}
use Rattle.bw_run.specs.Follow.Kinds.{kinds_of, kinds_in, AreShared, HasKinds, InputsHaveKinds, TurnsKeepKinds, GoingOnKeepsKinds}
use Rattle.bw_run.specs.Follow.Laws.{TypedIsReady}
use Rattle.bw_run.specs.Follow.Runs.{plain, first_of}
use Rattle.bw_run.proofs.Follow.Past.{begins_with, ends_out, goes_past}
use Rattle.bw_run.proofs.Follow.RunKinds.{Arrives, run_kinds, arrives_behind, arrives_first}
use Rattle.bw_run.proofs.Follow.Whole.{found, turns_agree, going_on_agrees}
use Rattle.bw_flow.proofs.Shut.{length_firsts}

pub typed_is_ready : TypedIsReady
typed_is_ready t = record {
  scoped = names_are_scoped t;
  closed = All-weaker (IsTypedSession t.service) (λ s. ends_in_exit s.body ≡ true) (λ s h. h.1) t.service.sessions
      (sessions_are_typed t.service t.readable t.well_typed);
}

-- at a session's first point the values are of the kinds that are due
pub first_arrives : (t : Typed) (session first : ℕ) (shared : Values) (units : ℕ) (inputs : List Input) →
    slice_get (plan_of t.service).firsts session ≡ Some first → AreShared t.service shared → InputsHaveKinds t.service inputs →
    Arrives t.service (plan_of t.service).steps first (record { locals = []; shared = shared; units = units; inputs = inputs })
first_arrives t session first shared units inputs e es ei =
    let service = t.service in
    let flow = (plan_of service).steps in
    let ready = typed_is_ready t in
    let fs = (plan_of service).firsts in
    let len = length_firsts service.sessions 0 (points service.sessions) in
    let f = found service flow service.sessions fs 1 (length flow) session (stands_for_all service) ready.scoped ready.closed
    (omega (arith, slice_get_within fs session first e, len)) in
    let body = body_of service session in
    let begin : Ends flow f.first [] = begins_with service flow body (first_number service session) [] 0 f.first _ f.lowered
    (ends_out flow (after body [])) in
    let same = same_Some f.first first (sym f.is ∙ e) in
    arrives_first service flow first shared units inputs (subst (λ q. Ends flow q []) same begin) es ei

-- so they are behind a show, once its input is taken
pub behind_arrives : (t : Typed) (p : ℕ) (x : Step) (e : Term) (rs : List Received) (l : Values) (i : Input) (later : List Input) →
    IsAt (plan_of t.service).steps p x → x.act ≡ acts.shows e rs → kinds_of l ≡ kinds_in x.scope → AreShared t.service i.shared →
    InputsHaveKinds t.service later → Arrives t.service (plan_of t.service).steps (first_of x.next) (taken (map plain rs) l i later)
behind_arrives t p x e rs l i later =
    arrives_behind t.service (plan_of t.service).steps (points_are_typed t) (all_have_nexts t.service) (goes_past t.service) p x e rs l i later

pub turns_keep_kinds : TurnsKeepKinds
turns_keep_kinds t session first shared inputs e es ei =
    let service = t.service in
    let flow = (plan_of service).steps in
    let law = turns_agree service session first shared inputs (typed_is_ready t) e in
    subst (HasKinds service flow) (law.1 0)
    (run_kinds service flow (points_are_typed t) (all_have_nexts service) (goes_past service) (law.0 + 0) first [] _
    (first_arrives t session first shared budget inputs e es ei))

pub going_on_keeps_kinds : GoingOnKeepsKinds
going_on_keeps_kinds t session p x e rs a at is fit of el es ei =
    let service = t.service in
    let flow = (plan_of service).steps in
    let law = going_on_agrees service session p x e rs a (typed_is_ready t) at is fit of in
    subst (HasKinds service flow) (law.1 0)
    (run_kinds service flow (points_are_typed t) (all_have_nexts service) (goes_past service) (law.0 + 0) _ a.rests _
    (behind_arrives t p x e rs a.locals a.input a.later at is el es ei))
