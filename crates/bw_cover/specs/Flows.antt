-- The same by the places of a flow: what facts about its points have to obey.
use Rattle.std.specs.Prelude.{◌≡◌, ◌≢◌, ℕ, ◌+◌, ◌==◌, true, List, [], ◌∷◌, ◌++◌, map}
use Rattle.std.specs.List.{AllByRecursion, AllPairs}
use Rattle.bw_lang.specs.declared.service.Service.{Service}
use Rattle.bw_lang.specs.declared.service.Shared.{Shared}
use Rattle.bw_lang.specs.declared.stmt.Receive.{Receive}
use Rattle.bw_lang.specs.Service.CodeNames.{local_names}
use Rattle.bw_lang.specs.Service.Term.{Term}
use Rattle.bw_meaning.specs.GoOn.{body_of, turn, go_on}
use Rattle.bw_lang.specs.Service.Numbers.{first_number}
use Rattle.bw_meaning.specs.States.{Input, Answered}
use Rattle.bw_meaning.specs.Values.{Values, first_values}
use Rattle.bw_flow.specs.declared.point.Local.{Local}
use Rattle.bw_flow.specs.declared.point.Received.{Received}
use Rattle.bw_flow.specs.Layout.{plan_of}
use Rattle.bw_flow.specs.Stands.{IsAt, Lowered}
use Rattle.bw_flow.specs.Steps.{Act, sets, tests, goes_over, shows, exits, joins, Step}
use Rattle.bw_cover.specs.Abstracts.{Html, Below, known, EachPair, IsNotLacked, IsPlug}
use Rattle.bw_cover.specs.Facts.{Facts, look, Leads, Edge, edge}
use Rattle.bw_cover.specs.Least.{Cells, with_cells, IsLeast}
use Rattle.bw_cover.specs.Facts.{literal_known}
use Rattle.bw_cover.specs.Plugs.{turn_plugs, go_on_plugs}
use Rattle.bw_cover.specs.Covered.{CoversLocals, CoversShared, CoversInputs, IsCovered, AreOpen}
use Rattle.bw_cover.specs.Facts as facts

-- the names of the locals in scope
abbrev pub names_of : List Local → List (List ℕ)
names_of scope = map (λ (l : Local). l.name) scope

-- the receives as they are written
abbrev pub written : List Received → List Receive
written rs = map (λ (r : Received). record { target = r.target; field = r.field }) rs

-- none of the expression's plugs may lack its gap, and each fills what it may
pub record Fits (service : Service) (f : Facts ℕ) (p : ℕ) (e : Term) : Type 0 where
  pub gaps : EachPair IsNotLacked service (look service f p) e
  pub plugs : EachPair (IsPlug service) service (look service f p) e

-- a point that does this leads to each of these
abbrev pub LeadsToAll : Service → Facts ℕ → ℕ → facts.What → List ℕ → Type 0
LeadsToAll service f p what next = AllByRecursion (λ (q : ℕ). Leads service f p what q) next

-- into the body with a string, and past it
abbrev pub Enters : Service → Facts ℕ → ℕ → List ℕ → List ℕ → Type 0
Enters service f p w [] = Unit {0}
Enters service f p w (y ∷ next) = Leads service f p (facts.brings w) y × LeadsToAll service f p facts.keeps next

-- the facts obey where a point that does this leads
abbrev pub ActLeads : Service → Facts ℕ → ℕ → Act → List ℕ → Type 0
ActLeads service f p (sets w e) next = LeadsToAll service f p (facts.sets w e) next
ActLeads service f p (tests e) next = LeadsToAll service f p facts.keeps next
ActLeads service f p (goes_over w e) next = Enters service f p w next
ActLeads service f p (shows e rs) next = LeadsToAll service f p (facts.takes (written rs)) next
ActLeads service f p (exits e) next = Unit {0}
ActLeads service f p joins next = LeadsToAll service f p facts.keeps next

-- its expression fits; the summary that is given for a page has all that is known of its document; the show of number n stands here
abbrev pub ActFits : Service → Facts ℕ → ℕ → ℕ → Act → Type 0
ActFits service f p n (sets w e) = Fits service f p e
ActFits service f p n (tests e) = Fits service f p e
ActFits service f p n (goes_over w e) = Fits service f p e
ActFits service f p n (shows e rs) = Fits service f p e × Below (known service (look service f p) e) (Html (f.shown p)) × (f.place n ≡ p)
ActFits service f p n (exits e) = Fits service f p e × Below (known service (look service f p) e) (Html (f.shown p)) × (f.is_exit p ≡ true)
ActFits service f p n joins = Unit {0}

-- and so at each point
pub record ObeysPoint (service : Service) (f : Facts ℕ) (p : ℕ) (x : Step) : Type 0 where
  pub scope : f.scope p ≡ names_of x.scope
  pub leads : ActLeads service f p x.act x.next
  pub fits : ActFits service f p x.number x.act

-- the facts obey each point of the flow
abbrev pub ObeysFlow : Service → Facts ℕ → List Step → Type 0
ObeysFlow service f flow = (p : ℕ) (x : Step) → IsAt flow p x → ObeysPoint service f p x

-- the flow stands for the session, whose locals differ, and the facts obey it
pub record AcceptsFlow (service : Service) (f : Facts ℕ) (flow : List Step) (session : ℕ) : Type 0 where
  pub first : ℕ
  pub last : ℕ
  pub lowered : Lowered service flow (body_of service session) (first_number service session) [] 0 first last
  pub differ : AllPairs (λ v w. v ≢ w) (local_names (body_of service session))
  pub obeys : ObeysFlow service f flow

-- a turn from covered shared variables, and going on from covered locals, give what is covered, and their plugs are open
abbrev pub FlowTurnIsCovered : Type 0
FlowTurnIsCovered =
    (service : Service) (f : Facts ℕ) (flow : List Step) (session : ℕ) (first : Values) (inputs : List Input) → AcceptsFlow service f flow session →
    CoversShared service f first → CoversInputs service f inputs →
    IsCovered service f (turn service session first inputs) × AreOpen (turn_plugs service session first inputs)

-- so does going on from a show with covered locals
abbrev pub FlowGoingOnIsCovered : Type 0
FlowGoingOnIsCovered =
    (service : Service) (f : Facts ℕ) (flow : List Step) (session : ℕ) (a : Answered) → AcceptsFlow service f flow session →
    CoversLocals service f (f.place a.at) a.locals → CoversShared service f a.input.shared → CoversInputs service f a.later →
    IsCovered service f (go_on service session a) × AreOpen (go_on_plugs service session a)

-- the facts obey the whole flow of the service, and the literals of its shared variables
pub record ObeysService (service : Service) (f : Facts ℕ) : Type 0 where
  pub literals : AllByRecursion (λ (v : Shared). Below (literal_known service v.init) (f.shared v.name)) service.shared
  pub points : ObeysFlow service f (plan_of service).steps

-- ---- the least cells of a flow

-- the edges to each of these points
abbrev pub edges_to : ℕ → facts.What → List ℕ → List (Edge ℕ)
edges_to p what next = map (λ (q : ℕ). edge p what q) next

-- where a point that does this leads
abbrev pub act_edges : ℕ → Act → List ℕ → List (Edge ℕ)
act_edges p (sets w e) next = edges_to p (facts.sets w e) next
act_edges p (tests e) next = edges_to p facts.keeps next
act_edges p (goes_over w e) [] = []
act_edges p (goes_over w e) (y ∷ next) = edge p (facts.brings w) y ∷ edges_to p facts.keeps next
act_edges p (shows e rs) next = edges_to p (facts.takes (written rs)) next
act_edges p (exits e) next = []
act_edges p joins next = edges_to p facts.keeps next

-- the edges of these points, the first of which has place p
abbrev pub flow_edges : List Step → ℕ → List (Edge ℕ)
flow_edges [] p = []
flow_edges (x ∷ xs) p = act_edges p x.act x.next ++ flow_edges xs (p + 1)

-- the least cells of a flow obey where each point leads, and each literal
abbrev pub FlowLeastObeys : Type 0
FlowLeastObeys =
    (service : Service) (f : Facts ℕ) (flow : List Step) (empty c : Cells ℕ) → IsLeast (λ p q. p == q) service f (flow_edges flow 0) empty c →
    ((p : ℕ) (x : Step) → IsAt flow p x → ActLeads service (with_cells f c) p x.act x.next)
    × AllByRecursion (λ (v : Shared). Below (literal_known service v.init) (c.shared v.name)) service.shared

-- the shared variables begin covered
abbrev pub FlowFirstIsCovered : Type 0
FlowFirstIsCovered =
    (service : Service) (f : Facts ℕ) → AllByRecursion (λ (v : Shared). Below (literal_known service v.init) (f.shared v.name)) service.shared →
    CoversShared service f (first_values service)
