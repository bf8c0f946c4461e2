-- Laws of the facts of a service.
use Rattle.std.specs.Prelude.{◌≡◌, ℕ, ◌==◌, ◌^◌, ◌<◌, List, [], length, is_some, Option, Some, slice_get}
use Rattle.bw_faults.specs.declared.fault.Fault.{Fault}
use Rattle.bw_faults.specs.Lists.{Lists}
use Rattle.bw_lang.specs.declared.service.Service.{Service}
use Rattle.bw_solve.specs.System.{EachFits}
use Rattle.bw_strings.specs.Literals.{literals_of}
use Rattle.bw_sum.specs.Graph.{graph}
use Rattle.bw_sum.specs.declared.summary.Summary.{Summary}
use Rattle.bw_types.specs.Scopes.{is_among}
use Rattle.bw_types.specs.declared.typed.Typed.{Typed}
use Rattle.bw_flow.specs.Steps.{Step}
use Rattle.bw_cover.specs.Facts.{Facts as CoverFacts, is_shared}
use Rattle.bw_cover.specs.Flows.{flow_edges}
use Rattle.bw_cover.specs.FlowKinds.{SolvesPlaces}
use Rattle.bw_cover.specs.FlowWorlds.{AcceptsPlaces}
use Rattle.bw_cover.specs.Least as least
use Rattle.bw_cover.specs.Worlds.{CoversEmpty, CoversReached}
use Rattle.bw_analyse.specs.declared.abstracts.Abstract.{Abstract}
use Rattle.bw_analyse.specs.declared.facts.Facts.{Facts}
use Rattle.bw_analyse.specs.Facts.{AreFacts, local_fact, shared_fact, shown_fact, page_of}
use Rattle.bw_analyse.specs.Fits.{FitsCell}
use Rattle.bw_analyse.specs.GapFaults.{IsGapFault}
use Rattle.bw_flow.specs.Layout.{flow_of}
use Rattle.bw_analyse.specs.Least.{rows, IsLeastSolution}
use Rattle.bw_analyse.specs.Rounds.{empty}
use Rattle.bw_sound.specs.Found.Seen.{seen, cells_of, facts_of, known_of}

-- The least solution of a typed service holds the least cells of its flow: the union of all rounds over the edges of the
-- flow, from empty cells.
abbrev pub LeastCellsAreLeast : Type 0
LeastCellsAreLeast =
    (t : Typed) (f : ℕ → List Abstract) (pages : ℕ → Option Summary) → length (literals_of t.service) < 2 ^ 32
    → EachFits (rows t.service) (FitsCell t.service) f → IsLeastSolution t.service f
    → least.IsLeast (λ p q. p == q) t.service (facts_of t.service f pages) (flow_edges (flow_of t.service) 0)
    (cells_of t.service (empty t.service (flow_of t.service))) (cells_of t.service f)

-- These say what is answered: of each local in scope at a point, and of no other name, of each shared variable, and of the
-- document of each show and exit.
pub record SayAnswers (service : Service) (f : CoverFacts ℕ) (facts : Facts) : Type 0 where
  pub locals : (p : ℕ) (w : List ℕ) → is_some (local_fact facts p w) ≡ is_among w (f.scope p)
  pub local : (p : ℕ) (w : List ℕ) (a : Abstract) → local_fact facts p w ≡ Some a → f.local p w ≡ seen service a
  pub variables : (w : List ℕ) → is_some (shared_fact facts w) ≡ is_shared service w
  pub shared : (w : List ℕ) (a : Abstract) → shared_fact facts w ≡ Some a → f.shared w ≡ seen service a
  pub pages : (p : ℕ) (x : Step) → slice_get (flow_of service) p ≡ Some x → is_some (shown_fact facts p) ≡ is_some (page_of x.act)
  pub shown : (p : ℕ) (s : Summary) → shown_fact facts p ≡ Some s → f.shown p ≡ graph (literals_of service) s

-- The facts of a service, by their members, say what the facts answer.
abbrev pub FactsSayAnswers : Type 0
FactsSayAnswers =
    (t : Typed) (facts : Facts) → AreFacts t.service facts
    → SayAnswers t.service (known_of t.service facts) facts

-- no plug of the service may miss its gap
abbrev pub HasNoGapFault : Service → Facts → Type 0
HasNoGapFault service facts = (f : Fault) → IsGapFault service facts f → ⊥

-- so it is where the list of all its gap faults has none
abbrev pub NoneIsListed : Type 0
NoneIsListed = (service : Service) (facts : Facts) → Lists (IsGapFault service facts) [] → HasNoGapFault service facts

-- The facts of a typed service, where no plug may miss its gap, solve the system of its flow. So what is known of a string
-- is a set of strings, of a document a summary, and of numbers, truth values and lists nothing.
abbrev pub FactsSolve : Type 0
FactsSolve =
    (t : Typed) (facts : Facts) → AreFacts t.service facts → HasNoGapFault t.service facts
    → SolvesPlaces t.service (known_of t.service facts)

-- They obey all that the laws of covering ask for.
abbrev pub FactsAreAccepted : Type 0
FactsAreAccepted =
    (t : Typed) (facts : Facts) → AreFacts t.service facts → HasNoGapFault t.service facts
    → AcceptsPlaces t.service (known_of t.service facts)

-- So they cover its empty world, and every world that requests reach from one that they cover, and whatever comes next.
abbrev pub FactsCoverWorlds : Type 0
FactsCoverWorlds =
    (t : Typed) (facts : Facts) → AreFacts t.service facts → HasNoGapFault t.service facts
    → CoversEmpty t.service (known_of t.service facts) × CoversReached t.service (known_of t.service facts)
