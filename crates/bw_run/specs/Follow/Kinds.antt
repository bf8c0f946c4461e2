-- The values that a session has are of the kinds of their variables.
use Rattle.std.specs.Prelude.{◌≡◌, ℕ, List, map, slice_get, Some}
use Rattle.std.specs.List.{All}
use Rattle.bw_lang.specs.declared.service.Service.{Service}
use Rattle.bw_lang.specs.declared.stmt.Kind.{Kind}
use Rattle.bw_lang.specs.declared.stmt.Kind.TheVariants as kinds
use Rattle.bw_lang.specs.Service.Term.{Term}
use Rattle.bw_types.specs.declared.typed.Typed.{Typed}
use Rattle.bw_types.specs.Scopes.{Scope, shared_kinds}
use Rattle.bw_types.specs.Typing.{HasKind}
use Rattle.bw_flow.specs.declared.point.Local.{Local}
use Rattle.bw_flow.specs.declared.point.Received.{Received}
use Rattle.bw_flow.specs.Layout.{plan_of}
use Rattle.bw_flow.specs.Stands.{IsAt}
use Rattle.bw_flow.specs.Steps.{Step}
use Rattle.bw_flow.specs.Steps as acts
use Rattle.bw_meaning.specs.Expressions.{Evaluated, Gives, Faults, eval}
use Rattle.bw_meaning.specs.GoOn.{turn, go_on}
use Rattle.bw_meaning.specs.States.{Input, Outcome, Went, Shown, Exited, Failed, Answered}
use Rattle.bw_meaning.specs.Values.{Value, Values, number, truth_value, text, document, list}
use Rattle.bw_run.specs.Follow.Laws.{IsFit, IsOf}

-- the kind of a value
abbrev pub kind_of : Value → Kind
kind_of (number n) = kinds.Int
kind_of (truth_value b) = kinds.Bool
kind_of (text s) = kinds.Str
kind_of (document d) = kinds.Html
kind_of (list strings) = kinds.Strs

-- names with the kinds of their values, in order
abbrev pub kinds_of : Values → List (List ℕ × Kind)
kinds_of values = map (λ x. (x.0, kind_of x.1)) values

-- those of the locals in scope
abbrev pub kinds_in : List Local → List (List ℕ × Kind)
kinds_in scope = map (λ l. (l.name, l.kind)) scope

-- there is a value of its kind for each shared variable
abbrev pub AreShared : Service → Values → Type 0
AreShared service shared = kinds_of shared ≡ shared_kinds service

-- where a value is given, it is of the kind
abbrev pub GivesKind : Kind → Evaluated → Type 0
GivesKind kind (Gives v units) = kind_of v ≡ kind
GivesKind kind (Faults f units) = Unit {0}

-- the value of an expression is of the expression's kind
abbrev pub ValuesHaveKinds : Type 0
ValuesHaveKinds =
    (service : Service) (scope : Scope) (e : Term) (kind : Kind) (locals shared : Values) (units : ℕ) →
    HasKind service scope e kind → kinds_of locals ≡ scope.locals → AreShared service shared → GivesKind kind (eval service locals shared e units)

-- At a show of the flow, with a value of its kind for each local in scope and each shared variable. So it is with the shared
-- variables at an exit.
abbrev pub HasKinds : Service → List Step → Outcome → Type 0
HasKinds service flow (Went st) = Unit {0}
HasKinds service flow (Shown at locals rests shown shared units) =
    ((p : ℕ) × (x : Step) × (e : Term) × (rs : List Received) × IsAt flow p x × (x.act ≡ acts.shows e rs) × (at ≡ x.number) ×
    (kinds_of locals ≡ kinds_in x.scope)) × AreShared service shared
HasKinds service flow (Exited last shared units) = AreShared service shared
HasKinds service flow (Failed f units) = Unit {0}

-- the shared variables at each request are of their kinds
abbrev pub InputsHaveKinds : Service → List Input → Type 0
InputsHaveKinds service inputs = All (λ i. AreShared service i.shared) inputs

-- a turn's values are of their kinds
abbrev pub TurnsKeepKinds : Type 0
TurnsKeepKinds =
    (typed : Typed) (session first : ℕ) (shared : Values) (inputs : List Input) → let service = typed.service in let plan = plan_of service in
    slice_get plan.firsts session ≡ Some first → AreShared service shared → InputsHaveKinds service inputs →
    HasKinds service plan.steps (turn service session shared inputs)

-- so are those of a session that goes on from a show
abbrev pub GoingOnKeepsKinds : Type 0
GoingOnKeepsKinds =
    (typed : Typed) (session p : ℕ) (x : Step) (e : Term) (rs : List Received) (a : Answered) → let service = typed.service in let plan = plan_of service in
    IsAt plan.steps p x → x.act ≡ acts.shows e rs → IsFit x a → IsOf service session x.number → kinds_of a.locals ≡ kinds_in x.scope →
    AreShared service a.input.shared →
    InputsHaveKinds service a.later → HasKinds service plan.steps (go_on service session a)
