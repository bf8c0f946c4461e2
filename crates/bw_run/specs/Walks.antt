-- Walking over a flow.
use Rattle.std.specs.Prelude.{◌≡◌, ◌<◌, ℕ, ◌+◌, ◌*◌, ◌-◌, true, List, length, take, slice_get, Option, Some, None, if◌then◌else◌, Result, Ok, Err}
use Rattle.bw_lang.specs.declared.service.Service.{Service}
use Rattle.bw_lang.specs.declared.turn.TurnFault.{TurnFault}
use Rattle.bw_flow.specs.Flows.{is_join, is_show}
use Rattle.bw_flow.specs.Stands.{IsAt}
use Rattle.bw_flow.specs.Steps.{Step}
use Rattle.bw_meaning.specs.States.{Outcome, Shown, Exited, Failed}
use Rattle.bw_run.specs.declared.standing.Standing.{Standing}
use Rattle.bw_run.specs.declared.walk.Advance.{Advance}
use Rattle.bw_run.specs.declared.walk.Advance.TheVariants as advances
use Rattle.bw_run.specs.declared.walk.Stop.{Stop}
use Rattle.bw_run.specs.declared.walk.Stop.TheVariants as stops
use Rattle.bw_eval.specs.View.{document, values}
use Rattle.bw_run.specs.Follow.Kinds as kinds
use Rattle.bw_run.specs.Follow.Kinds.{kinds_of, kinds_in}
use Rattle.bw_run.specs.Code.{state}
use Rattle.bw_lang.specs.declared.service.Template.{Template}
use Rattle.bw_doc.specs.Operations.{IsOf}
use Rattle.bw_run.specs.Follow.Runs.{run}

-- the number of the statement at a place
abbrev pub number_of : Option Step → ℕ
number_of None = 0
number_of (Some x) = x.number

abbrev pub number_at : List Step → ℕ → ℕ
number_at flow p = number_of (slice_get flow p)

-- from a point on, over at most g points more
abbrev pub advanced : Service → List Step → ℕ → ℕ → Result Advance TurnFault → Standing → Outcome
advanced service flow at g (Ok (advances.To q)) s = run service flow g q s.rests (state s)
advanced service flow at g (Ok (advances.Waits d)) s = Shown (number_at flow at) (values s.locals) s.rests (document d) (values s.shared) s.units
advanced service flow at g (Ok (advances.Ends d)) s = Exited (document d) (values s.shared) s.units
advanced service flow at g (Err f) s = Failed f s.units

abbrev pub stopped : List Step → Result Stop TurnFault → Standing → Outcome
stopped flow (Ok (stops.Waits p d)) s = Shown (number_at flow p) (values s.locals) s.rests (document d) (values s.shared) s.units
stopped flow (Ok (stops.Ends d)) s = Exited (document d) (values s.shared) s.units
stopped flow (Err f) s = Failed f s.units

-- how many joins there may be from a place on, one after the other
abbrev pub rank_of : ℕ → Option Step → ℕ → ℕ
rank_of n None p = 0
rank_of n (Some x) p = if is_join x.act then n - p else 0

abbrev pub rank : List Step → ℕ → ℕ
rank flow p = rank_of (length flow) (slice_get flow p) p

-- what falls from point to point
abbrev pub measure : List Step → ℕ → ℕ → ℕ
measure flow p units = units * (length flow + 2) + rank flow p

abbrev pub IsInside : List Step → Advance → Type 0
IsInside flow (advances.To q) = q < length flow
IsInside flow (advances.Waits d) = Unit {0}
IsInside flow (advances.Ends d) = Unit {0}

abbrev pub IsLess : (flow : List Step) → (place old new : ℕ) → Advance → Type 0
IsLess flow p old new (advances.To q) = measure flow q new < measure flow p old
IsLess flow p old new (advances.Waits d) = Unit {0}
IsLess flow p old new (advances.Ends d) = Unit {0}

-- a show stands at that place
abbrev pub AtShow : List Step → ℕ → Type 0
AtShow flow p = (x : Step) × IsAt flow p x × (is_show x.act ≡ true)

-- the document with which a turn stops is of the service, and where it waits a show stands there
abbrev pub AdvancesWell : List Template → List Step → ℕ → Advance → Type 0
AdvancesWell templates flow at (advances.To q) = Unit {0}
AdvancesWell templates flow at (advances.Waits d) = AtShow flow at × IsOf templates d
AdvancesWell templates flow at (advances.Ends d) = IsOf templates d

abbrev pub IsSoundStop : List Template → List Step → Stop → Type 0
IsSoundStop templates flow (stops.Waits p d) = AtShow flow p × IsOf templates d
IsSoundStop templates flow (stops.Ends d) = IsOf templates d

-- At that place there is a value of its kind for each local in scope, which may stand in front of others, and for each
-- shared variable.
pub record HasKindsAt (service : Service) (flow : List Step) (p : ℕ) (s : Standing) : Type 0 where
  pub locals : (x : Step) → IsAt flow p x → kinds_of (take (length x.scope) (values s.locals)) ≡ kinds_in x.scope
  pub shared : kinds.AreShared service (values s.shared)

-- so it is where a turn goes from a point
abbrev pub AdvancesTo : Service → List Step → Standing → Advance → Type 0
AdvancesTo service flow s (advances.To q) = HasKindsAt service flow q s
AdvancesTo service flow s (advances.Waits d) = Unit {0}
AdvancesTo service flow s (advances.Ends d) = Unit {0}
