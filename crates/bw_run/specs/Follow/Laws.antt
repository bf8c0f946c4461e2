-- The flow means what the statements mean.
use Rattle.std.specs.Prelude.{◌≡◌, ◌≤◌, ◌<◌, ℕ, ◌+◌, List, [], length, map, Some, slice_get}
use Rattle.bw_lang.specs.declared.service.Service.{Service}
use Rattle.bw_lang.specs.Service.Code.{numbered}
use Rattle.bw_lang.specs.Service.Term.{Term}
use Rattle.bw_types.specs.declared.typed.Typed.{Typed}
use Rattle.bw_flow.specs.declared.point.Received.{Received}
use Rattle.bw_flow.specs.Layout.{plan_of}
use Rattle.bw_flow.specs.Steps.{Step}
use Rattle.bw_flow.specs.Steps as acts
use Rattle.bw_lang.specs.Service.Numbers.{first_number}
use Rattle.bw_meaning.specs.GoOn.{body_of, turn, go_on}
use Rattle.bw_meaning.specs.Laws.{answered}
use Rattle.bw_meaning.specs.States.{Input, Outcome, Shown, Answered, Rests, budget}
use Rattle.bw_meaning.specs.Statements.{taken}
use Rattle.bw_meaning.specs.Values.{Document, Values, names_of}
use Rattle.bw_run.specs.Follow.Runs.{plain, first_of, run}
use Rattle.bw_run.specs.Follow.Scoped.{names_in, IsReady}

-- over enough points it comes to this outcome
abbrev pub Settles : (ℕ → Outcome) → Outcome → Type 0
Settles R o = (f : ℕ) × ((g : ℕ) → R (f + g) ≡ o)

-- from a session's first point, with no locals and no rests, the flow gives the session's turn
abbrev pub TurnsAgree : Type 0
TurnsAgree =
    (service : Service) (session first : ℕ) (shared : Values) (inputs : List Input) → let plan = plan_of service in
    IsReady service → slice_get plan.firsts session ≡ Some first →
    Settles (λ g. run service plan.steps g first [] (record { locals = []; shared = shared; units = budget; inputs = inputs }))
    (turn service session shared inputs)

-- the locals are those in scope at the point, and there is a rest for each foreach around it
pub record IsFit (x : Step) (a : Answered) : Type 0 where
  pub number : a.at ≡ x.number
  pub names : names_of a.locals ≡ names_in x.scope
  pub rests : length a.rests ≡ x.inside

-- the statement of this number is one of the session's
pub record IsOf (service : Service) (session number : ℕ) : Type 0 where
  pub from : first_number service session ≤ number
  pub below : number < first_number service session + numbered (body_of service session)

-- With these locals and rests the session waits at a show of the flow, which is one of its own: whatever the input, its frame
-- is fit.
abbrev pub IsFitShow : Service → ℕ → Input → ℕ → Values → Rests → Type 0
IsFitShow service session i at locals rests =
    (p : ℕ) × (x : Step) × (e : Term) × (rs : List Received) × (slice_get (plan_of service).steps p ≡ Some x) × (x.act ≡ acts.shows e rs)
    × IsFit x (answered at locals rests i) × IsOf service session at

-- from behind a show, once its input is taken, the flow gives what the session goes on with
abbrev pub GoingOnAgrees : Type 0
GoingOnAgrees =
    (service : Service) (session p : ℕ) (x : Step) (e : Term) (rs : List Received) (a : Answered) → let plan = plan_of service in
    IsReady service → slice_get plan.steps p ≡ Some x → x.act ≡ acts.shows e rs → IsFit x a → IsOf service session x.number →
    Settles (λ g. run service plan.steps g (first_of x.next) a.rests (taken (map plain rs) a.locals a.input a.later)) (go_on service session a)

-- where a session waits in the middle of its turn, its frame is fit for a show of the flow, which is one of its own
abbrev pub ShownIsFit : Type 0
ShownIsFit =
    (service : Service) (session first : ℕ) (shared : Values) (inputs : List Input) (i : Input) (at : ℕ) (locals : Values) (rests : Rests)
    (shown : Document) (sh : Values) (units : ℕ) →
    let plan = plan_of service in
    IsReady service → slice_get plan.firsts session ≡ Some first → turn service session shared inputs ≡ Shown at locals rests shown sh units →
    IsFitShow service session i at locals rests

-- the same where it goes on from a show
abbrev pub ShownAgainIsFit : Type 0
ShownAgainIsFit =
    (service : Service) (session p0 : ℕ) (x0 : Step) (e0 : Term) (rs0 : List Received) (a : Answered) (i : Input) (at : ℕ) (locals : Values)
    (rests : Rests) (shown : Document) (sh : Values) (units : ℕ) →
    let plan = plan_of service in
    IsReady service → slice_get plan.steps p0 ≡ Some x0 → x0.act ≡ acts.shows e0 rs0 → IsFit x0 a → IsOf service session x0.number →
    go_on service session a ≡ Shown at locals rests shown sh units →
    IsFitShow service session i at locals rests

-- each service that is well typed is ready
abbrev pub TypedIsReady : Type 0
TypedIsReady = (typed : Typed) → IsReady typed.service
