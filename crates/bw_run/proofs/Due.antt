-- Where a turn begins, the values are of the kinds that are due there.
use Rattle.std.proofs.Common.{◌≡◌, ℕ, List, [], length, take, Some, sym, ap, ◌∙◌, subst}
use Rattle.std.specs.Prelude.{slice_get}
use Rattle.std.proofs.lemmas.List.Elements.{All-nil}
use Rattle.bw_types.specs.declared.typed.Typed.{Typed}
use Rattle.bw_flow.specs.Layout.{plan_of}
use Rattle.bw_flow.specs.Steps.{Plan}
use Rattle.bw_flow.specs.Steps as acts
use Rattle.bw_meaning.specs.States.{Form, Input, State, budget}
use Rattle.bw_eval.specs.declared.value.Value.{Value}
use Rattle.bw_eval.specs.View.{values}
use Rattle.bw_run.specs.Follow.Kinds.{kinds_of, AreShared}
use Rattle.bw_run.proofs.Follow.Kept.{first_arrives, behind_arrives}
use Rattle.bw_run.specs.declared.standing.Standing.{Standing}
use Rattle.bw_run.specs.declared.turn.Frame.{Frame}
use Rattle.bw_run.specs.Walks.{HasKindsAt}
use Rattle.bw_run.specs.Fit.{IsFrame}
use Rattle.bw_run.proofs.Resumed.{GoesOn}

pub first_kinds_due : (typed : Typed) (flow : Plan) → flow ≡ plan_of typed.service → (session first : ℕ) (shared : List (List ℕ × Value)) (s : Standing) →
    slice_get flow.firsts session ≡ Some first → s.locals ≡ [] → s.shared ≡ shared → AreShared typed.service (values shared) →
    HasKindsAt typed.service flow.steps first s
first_kinds_due typed flow same session first shared s at el es kept =
    let service = typed.service in
    let at1 = subst (λ (f : Plan). slice_get f.firsts session ≡ Some first) same at in
    let a = first_arrives typed session first (values shared) budget [] at1 kept (All-nil (λ i. AreShared service i.shared)) in
    subst (λ (f : Plan). HasKindsAt service f.steps first s) (sym same) (record {
      locals = λ y there. ap (λ l. kinds_of (take (length y.scope) (values l))) el ∙ a.there y there;
      shared = ap (λ l. kinds_of (values l)) es ∙ kept;
    })

pub behind_kinds_due : (typed : Typed) (flow : Plan) (frame : Frame) (waits : IsFrame typed.service flow.steps frame) (form : Form)
    (shared : List (List ℕ × Value)) (s : Standing) (next : ℕ) → flow ≡ plan_of typed.service → AreShared typed.service (values shared) →
    GoesOn typed.service flow.steps frame waits form shared s next → HasKindsAt typed.service flow.steps next s
behind_kinds_due typed flow frame waits form shared s next same kept goes =
    let service = typed.service in
    let x = waits.point in
    let input : Input = record { form = form; shared = values shared } in
    let at = subst (λ (f : Plan). slice_get f.steps frame.point ≡ Some x) same waits.is in
    let a = behind_arrives typed frame.point x waits.page waits.fields (values frame.locals) input [] at waits.acts waits.locals.kinds_are kept
    (All-nil (λ i. AreShared service i.shared)) in
    subst (λ (f : Plan). HasKindsAt service f.steps next s) (sym same)
    (subst (λ z. HasKindsAt service (plan_of service).steps z s) (sym goes.next_is) (record {
      locals = λ y there. ap (λ (st : State). kinds_of (take (length y.scope) st.locals)) goes.state_is ∙ a.there y there;
      shared = ap (λ (st : State). kinds_of st.shared) goes.state_is ∙ a.shared;
    }))
