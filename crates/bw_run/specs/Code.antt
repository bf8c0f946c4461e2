-- What the code's values stand for.
use Rattle.std.specs.Prelude.{◌≡◌, ◌≤◌, ℕ, ◌+◌, true, List, [], Option, Some, None, Result, Ok, Err, IfOk, OnOk}
use Rattle.std.specs.List.{All}
use Rattle.bw_lang.specs.declared.service.Service.{Service}
use Rattle.bw_lang.specs.declared.service.Template.{Template}
use Rattle.bw_lang.specs.declared.turn.TurnFault.{TurnFault}
use Rattle.bw_lang.specs.Service.Term.{Term}
use Rattle.bw_typed.specs.ShortStrings.{HasShort}
use Rattle.bw_flow.specs.Flows.{is_show}
use Rattle.bw_flow.specs.Steps.{Act, Step}
use Rattle.bw_flow.specs.Steps as acts
use Rattle.bw_run.specs.Follow.Runs.{first_of, second_of, Next, does}
use Rattle.bw_meaning.specs.States.{State, Outcome, Shown, Exited, Failed}
use Rattle.bw_meaning.specs.Values as meaning
use Rattle.bw_doc.specs.Made.{Made}
use Rattle.bw_doc.specs.Operations.{IsOf}
use Rattle.bw_eval.specs.declared.value.Value.{Value}
use Rattle.bw_eval.specs.Bases.{HasBases, GivesDocuments}
use Rattle.bw_eval.specs.Evaluations.{HasMemory}
use Rattle.bw_eval.specs.Sound.{AreSound}
use Rattle.bw_typed.specs.ShortStrings.{IsShort}
use Rattle.bw_eval.specs.View.{document, value, values}
use Rattle.bw_run.specs.declared.standing.Standing.{Standing}
use Rattle.bw_run.specs.declared.step.Stepped.{Stepped}
use Rattle.bw_run.specs.declared.step.Stepped.TheVariants.{First, Second, Waits, Ends}

-- the state that a session is in, with no input left
abbrev pub state : Standing → State
state s = record { locals = values s.locals; shared = values s.shared; units = s.units; inputs = [] }

-- what a beginning answers, with so many units left
abbrev pub begun : Result Value TurnFault → (meaning.Value → State → Outcome) → State → ℕ → Outcome
begun (Ok v) go st units = go (value v) (record st { units = units })
begun (Err f) go st units = Failed f units

-- so for an expression that gives a document
abbrev pub begun_document : Result Made TurnFault → (meaning.Value → State → Outcome) → State → ℕ → Outcome
begun_document (Ok d) go st units = go (meaning.document (document d)) (record st { units = units })
begun_document (Err f) go st units = Failed f units

-- the fault that tests answer
abbrev pub tested : Result (Unit {0}) TurnFault → Option TurnFault
tested (Ok u) = None
tested (Err f) = Some f

-- where a step goes, or how the turn ends with it
abbrev pub stepped : Result Stepped TurnFault → Step → Next → Standing → Outcome
stepped (Ok First) x next s = next (first_of x.next) s.rests (state s)
stepped (Ok Second) x next s = next (second_of x.next) s.rests (state s)
stepped (Ok (Waits d)) x next s = Shown x.number (values s.locals) s.rests (document d) (values s.shared) s.units
stepped (Ok (Ends d)) x next s = Exited (document d) (values s.shared) s.units
stepped (Err f) x next s = Failed f s.units

-- strings of at most 16,384 bytes
abbrev pub AreShort : List (List ℕ) → Type 0
AreShort strings = All IsShort strings

-- all that is at hand is sound
pub record IsSound (templates : List Template) (s : Standing) : Type 0 where
  pub locals : AreSound templates s.locals
  pub shared : AreSound templates s.shared
  pub rests : All AreShort s.rests

-- the units that a point takes at least, where it goes on like this
abbrev pub pays : Act → Stepped → ℕ
pays (acts.sets w e) s = 1
pays (acts.tests e) s = 1
pays (acts.goes_over w e) s = 1
pays (acts.shows e rs) s = 1
pays (acts.exits e) s = 1
pays acts.joins First = 0
pays acts.joins Second = 1
pays acts.joins (Waits d) = 0
pays acts.joins (Ends d) = 0

-- each string literal of a point is short
abbrev pub ActIsShort : Act → Type 0
ActIsShort (acts.sets w e) = HasShort e
ActIsShort (acts.tests e) = HasShort e
ActIsShort (acts.goes_over w e) = HasShort e
ActIsShort (acts.shows e rs) = HasShort e
ActIsShort (acts.exits e) = HasShort e
ActIsShort acts.joins = Unit {0}

-- the document with which a turn stops at a point is of the service, and where it waits the point is a show
abbrev pub StopsWell : List Template → Act → Stepped → Type 0
StopsWell templates a First = Unit {0}
StopsWell templates a Second = Unit {0}
StopsWell templates a (Waits d) = (is_show a ≡ true) × IsOf templates d
StopsWell templates a (Ends d) = IsOf templates d

-- ---- what a point asks and gives

-- An expression can be evaluated: its string literals are short, its plugs go into documents, and all at hand is sound.
pub record CanEvaluate (service : Service) (e : Term) (s : Standing) : Type 0 where
  pub short : HasShort e
  pub bases : HasBases service (values s.locals) (values s.shared) e
  pub sound : IsSound service.templates s

-- and its values are documents
pub record CanShow (service : Service) (e : Term) (s : Standing) : Type 0 where
  pub evaluates : CanEvaluate service e s
  pub documents : GivesDocuments service (values s.locals) (values s.shared) e

-- a point can do this
abbrev pub CanDo : Service → Act → Standing → Type 0
CanDo service (acts.sets w e) s = CanEvaluate service e s
CanDo service (acts.tests e) s = CanEvaluate service e s
CanDo service (acts.goes_over w e) s = CanEvaluate service e s
CanDo service (acts.shows e rs) s = CanShow service e s
CanDo service (acts.exits e) s = CanShow service e s
CanDo service acts.joins s = IsSound service.templates s

-- A point did this, with this answer, and the counter rose from the one number to the other.
pub record Does (service : Service) (a : Act) (x : Step) (old new : Standing) (before after : ℕ) (result : Result Stepped TurnFault) : Type 0 where
  -- it is what the flow does there, wherever that goes on
  pub does_so : (next : Next) → HasMemory result → does service a x next old.rests (state old) ≡ stepped result x next new
  -- each unit is a step
  pub steps : after + new.units ≡ before + old.units
  pub left : new.units ≤ old.units
  pub paid : IfOk result (λ s. new.units + pays a s ≤ old.units)
  pub stops : IfOk result (StopsWell service.templates a)
  pub sound : OnOk result (IsSound service.templates new)
