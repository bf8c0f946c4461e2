-- What an analysis over the places of a flow has to find; what its expressions fill is then said by their kinds.
use Rattle.std.specs.Prelude.{◌≡◌, ℕ, true}
use Rattle.std.specs.List.{AllByRecursion}
use Rattle.bw_lang.specs.declared.service.Service.{Service}
use Rattle.bw_lang.specs.declared.service.Shared.{Shared}
use Rattle.bw_lang.specs.Service.Reads.{IsReadable}
use Rattle.bw_lang.specs.Service.Term.{Term}
use Rattle.bw_types.specs.Faults.{IsWellTyped}
use Rattle.bw_flow.specs.Layout.{plan_of}
use Rattle.bw_flow.specs.Stands.{IsAt}
use Rattle.bw_flow.specs.Steps.{Act, sets, tests, goes_over, shows, exits, joins, Step}
use Rattle.bw_flow.specs.TypedFlow.{names_at}
use Rattle.bw_sum.specs.Graph.{IsBelow}
use Rattle.bw_cover.specs.Abstracts.{Below, known, EachPair, IsNotLacked}
use Rattle.bw_cover.specs.Facts.{Facts, look, literal_known}
use Rattle.bw_cover.specs.Flows.{names_of, ActLeads}
use Rattle.bw_cover.specs.FlowWorlds.{AcceptsPlaces}
use Rattle.bw_cover.specs.Kinds.{LocalsAreOf, SharedAreOf, summary_of}

-- no gap fault: none of the expression's plugs may lack its gap
abbrev pub HasGaps : Service → Facts ℕ → ℕ → Term → Type 0
HasGaps service f p e = EachPair IsNotLacked service (look service f p) e

-- so it is with the expression of a point that does this
abbrev pub ActHasGaps : Service → Facts ℕ → ℕ → Act → Type 0
ActHasGaps service f p (sets w e) = HasGaps service f p e
ActHasGaps service f p (tests e) = HasGaps service f p e
ActHasGaps service f p (goes_over w e) = HasGaps service f p e
ActHasGaps service f p (shows e rs) = HasGaps service f p e
ActHasGaps service f p (exits e) = HasGaps service f p e
ActHasGaps service f p joins = Unit {0}

-- the summary of a page has all that is known of its document; the show of number n stands here, and an exit is one
abbrev pub ActShows : Service → Facts ℕ → ℕ → ℕ → Act → Type 0
ActShows service f p n (sets w e) = Unit {0}
ActShows service f p n (tests e) = Unit {0}
ActShows service f p n (goes_over w e) = Unit {0}
ActShows service f p n (shows e rs) = IsBelow (summary_of (known service (look service f p) e)) (f.shown p) × (f.place n ≡ p)
ActShows service f p n (exits e) = IsBelow (summary_of (known service (look service f p) e)) (f.shown p) × (f.is_exit p ≡ true)
ActShows service f p n joins = Unit {0}

-- what is found at a point: what each local in scope there is, of its kind, and where that leads
pub record SolvesPoint (service : Service) (f : Facts ℕ) (p : ℕ) (x : Step) : Type 0 where
  pub scope : f.scope p ≡ names_of x.scope
  pub kinds : LocalsAreOf f p (names_at x.scope)
  pub leads : ActLeads service f p x.act x.next
  pub gaps : ActHasGaps service f p x.act
  pub shows : ActShows service f p x.number x.act

-- of a service that was read and is well typed: what each shared variable is, of its kind, and so at each point
pub record SolvesPlaces (service : Service) (f : Facts ℕ) : Type 0 where
  pub readable : ∥ IsReadable service ∥₁
  pub typed : IsWellTyped service
  pub literals : AllByRecursion (λ (v : Shared). Below (literal_known service v.init) (f.shared v.name)) service.shared
  pub kinds : SharedAreOf service f
  pub points : (p : ℕ) (x : Step) → IsAt (plan_of service).steps p x → SolvesPoint service f p x

-- so the laws hold of it
abbrev pub SolvedPlacesAreAccepted : Type 0
SolvedPlacesAreAccepted = (service : Service) (f : Facts ℕ) → SolvesPlaces service f → AcceptsPlaces service f
