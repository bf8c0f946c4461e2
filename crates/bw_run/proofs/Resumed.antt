-- What a walk from behind a show is.
use Rattle.std.proofs.Common.{◌≡◌, ℕ, ◌+◌, List, [], map, Some, sym, ap, ◌∙◌, subst}
use Rattle.std.specs.Prelude.{slice_get, Result}
use Rattle.bw_lang.specs.declared.turn.TurnFault.{TurnFault}
use Rattle.bw_lang.specs.declared.service.Service.{Service}
use Rattle.bw_lang.specs.Service.Term.{Term}
use Rattle.bw_types.specs.declared.typed.Typed.{Typed}
use Rattle.bw_flow.specs.declared.point.Received.{Received}
use Rattle.bw_flow.specs.Steps.{Step, Plan}
use Rattle.bw_flow.specs.Steps as acts
use Rattle.bw_flow.specs.Layout.{plan_of}
use Rattle.bw_meaning.specs.GoOn.{go_on}
use Rattle.bw_meaning.specs.Laws.{answered}
use Rattle.bw_meaning.specs.States.{Form, Input, budget}
use Rattle.bw_meaning.specs.Statements.{received, taken}
use Rattle.bw_eval.specs.declared.value.Value.{Value}
use Rattle.bw_eval.specs.View.{values}
use Rattle.bw_run.proofs.Follow.Kept.{typed_is_ready}
use Rattle.bw_meaning.proofs.Costs.{going_on_costs}
use Rattle.bw_run.specs.declared.standing.Standing.{Standing}
use Rattle.bw_run.specs.declared.turn.Turn.{Turn}
use Rattle.bw_run.specs.declared.walk.Stop.{Stop}
use Rattle.bw_run.specs.Code.{state}
use Rattle.bw_run.specs.Follow.Laws.{Settles, IsOf}
use Rattle.bw_flow.specs.Flows.{fields_of}
use Rattle.bw_run.specs.Follow.Runs.{plain, first_of, run}
use Rattle.bw_run.specs.declared.turn.Frame.{Frame}
use Rattle.bw_run.specs.Turns.{turned, IsTurn, answered_frame}
use Rattle.bw_run.specs.Walks.{number_of, number_at, stopped}
use Rattle.bw_run.specs.Fit.{IsFrame}
use Rattle.bw_run.proofs.Fits.{names_from}
use Rattle.bw_run.proofs.Started.{one_outcome, is_turn}
use Rattle.bw_run.proofs.Follow.Whole.{going_on_agrees}

pub fields_are : (x y : Step) (page : Term) (fields rs : List Received) → x ≡ y → y.act ≡ acts.shows page fields → fields_of x.act ≡ rs → fields ≡ rs
fields_are x y page fields rs e a h = sym (ap fields_of a) ∙ sym (ap (λ (u : Step). fields_of u.act) e) ∙ h

-- what stands behind a show, once the form is received, is the state with the input taken
pub taken_is : (fields rs : List Received) (l l0 shared sh0 : List (List ℕ × Value)) (form : Form) (s0 : Standing) → fields ≡ rs → l0 ≡ l → sh0 ≡ shared →
    state s0 ≡ received (map plain rs) form (record { locals = values l0; shared = values sh0; units = budget; inputs = [] }) →
    state s0 ≡ taken (map plain fields) (values l) (record { form = form; shared = values shared }) []
taken_is fields rs l l0 shared sh0 form s0 ef el es est =
    est ∙ ap (λ fs. received (map plain fs) form (record { locals = values l0; shared = values sh0; units = budget; inputs = [] })) (sym ef)
    ∙ (λ j. received (map plain fields) form (record { locals = values (el j); shared = values (es j); units = budget; inputs = [] }))

-- The standing with which a turn goes on from the frame: what the form says is taken, and the place behind the show is next.
pub record GoesOn (service : Service) (flow : List Step) (frame : Frame) (waits : IsFrame service flow frame) (form : Form)
    (shared : List (List ℕ × Value)) (s : Standing) (next : ℕ) : Type 0 where
  pub state_is : state s ≡ taken (map plain waits.fields) (values frame.locals) (record { form = form; shared = values shared }) []
  pub rests : s.rests ≡ frame.rests
  pub units : s.units ≡ budget
  pub next_is : next ≡ first_of waits.point.next

-- what was walked from there is the turn that the meaning goes on with
pub resumed : (typed : Typed) (flow : Plan) (session : ℕ) (frame : Frame) (waits : IsFrame typed.service flow.steps frame) (form : Form)
    (shared : List (List ℕ × Value)) (s0 s1 : Standing) (next : ℕ) (result : Result Turn TurnFault) (stop : Result Stop TurnFault) (before after : ℕ) →
    flow ≡ plan_of typed.service → IsOf typed.service session (number_at flow.steps frame.point) →
    GoesOn typed.service flow.steps frame waits form shared s0 next →
    Settles (λ g. run typed.service flow.steps g next s0.rests (state s0)) (stopped flow.steps stop s1) → after + s1.units ≡ before + s0.units →
    turned flow.steps result s1.units ≡ stopped flow.steps stop s1 →
    IsTurn flow.steps result before after (go_on typed.service session (answered_frame flow.steps frame form shared))
resumed typed flow session frame waits form shared s0 s1 next result stop before after same of goes walked c r =
    let service = typed.service in
    let x = waits.point in
    let number : number_at flow.steps frame.point ≡ x.number = ap number_of waits.is in
    let input : Input = record { form = form; shared = values shared } in
    let l = values frame.locals in
    let a = answered (number_at flow.steps frame.point) l frame.rests input in
    let st = taken (map plain waits.fields) l input [] in
    let at = subst (λ (f : Plan). slice_get f.steps frame.point ≡ Some x) same waits.is in
    let law = going_on_agrees service session frame.point x waits.page waits.fields a (typed_is_ready typed) at waits.acts (record {
      number = number;
      names = names_from l x.scope waits.locals.kinds_are;
      rests = waits.rests;
    }) (subst (IsOf service session) number of) in
    let law1 = subst (λ (f : Plan). Settles (λ g. run service f.steps g (first_of x.next) frame.rests st) (go_on service session a)) (sym same) law in
    let run1 = subst (λ z. Settles (λ g. run service flow.steps g z s0.rests (state s0)) (stopped flow.steps stop s1)) goes.next_is walked in
    let run2 = subst (λ z. Settles (λ g. run service flow.steps g (first_of x.next) z (state s0)) (stopped flow.steps stop s1)) goes.rests run1 in
    let run3 = subst (λ z. Settles (λ g. run service flow.steps g (first_of x.next) frame.rests z) (stopped flow.steps stop s1)) goes.state_is run2 in
    is_turn flow.steps result stop s1 before after (go_on service session a)
    (one_outcome (λ g. run service flow.steps g (first_of x.next) frame.rests st) (stopped flow.steps stop s1) (go_on service session a) run3 law1)
    (c ∙ ap (λ n. before + n) goes.units) (going_on_costs service session a) r
