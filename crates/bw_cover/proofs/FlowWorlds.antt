-- The flow of a service stands for each of its sessions, so facts that obey it cover every world.
use Rattle.std.proofs.Common.{◌≡◌, ℕ, zero, suc, ◌+◌, List, [], ◌∷◌, map, take, refl, subst, arith}
use Rattle.std.specs.Prelude.{◌≢◌, sum_by, slice_get, unwrap_or, length}
use Rattle.std.specs.List.{AllPairs}
use Rattle.std.proofs.lemmas.List.Sums.{sum_by-cons}
use Rattle.bw_lang.specs.declared.service.Service.{Service}
use Rattle.bw_lang.specs.declared.service.Session.{Session}
use Rattle.bw_lang.specs.Service.Code.{Code, done, numbered}
use Rattle.bw_lang.specs.Service.CodeNames.{local_names}
use Rattle.bw_flow.specs.Layout.{plan_of}
use Rattle.bw_flow.specs.Stands.{Lowered, AllLowered}
use Rattle.bw_flow.specs.Steps.{Step}
use Rattle.bw_flow.proofs.Stands.{stands_for_all}
use Rattle.bw_cover.specs.Facts.{Facts}
use Rattle.bw_cover.specs.Flows.{AcceptsFlow}
use Rattle.bw_cover.specs.FlowWorlds.{AcceptsPlaces, FlowEmptyIsCovered, FlowStepsKeepCovering, FlowWorldsAreCovered}
use Rattle.bw_cover.specs.Sound.{CoversTurns}
use Rattle.bw_cover.proofs.Checked.{at_body}
use Rattle.bw_cover.proofs.First.{first_covered}
use Rattle.bw_cover.proofs.Flows.{flow_turn, flow_going_on}
use Rattle.bw_cover.proofs.SolvedLaws.{locals_differ}
use Rattle.bw_cover.proofs.Worlds.{covers_empty, stepped, nexts, covers_reached}

-- statements that begin somewhere and end somewhere in the flow
abbrev pub StandsHere : Service → List Step → Code → ℕ → Type 0
StandsHere service flow c n = (first : ℕ) × (last : ℕ) × Lowered service flow c n [] 0 first last

pub stands_here : (service : Service) (flow : List Step) (ss : List Session) (firsts : List ℕ) (n k out : ℕ) → AllLowered service flow ss firsts n out
    → StandsHere service flow (unwrap_or (slice_get (map (λ (s : Session). s.body) ss) k) done) (n + sum_by (λ (s : Session). numbered s.body) (take k ss))
stands_here service flow [] [] n zero out h = (0, 0, refl)
stands_here service flow [] [] n (suc k) out h = (0, 0, refl)
stands_here service flow [] (q ∷ firsts) n k out h = absurd h
stands_here service flow (s ∷ ss) [] n k out h = absurd h
stands_here service flow (s ∷ ss) (q ∷ firsts) n zero out h =
    let e : n ≡ n + sum_by (λ (x : Session). numbered x.body) [] = omega arith in
    subst (StandsHere service flow s.body) e (q, out, h.0)
stands_here service flow (s ∷ ss) (q ∷ firsts) n (suc k) out h =
    let c = sum_by-cons (λ (x : Session). numbered x.body) s (take k ss) in
    let e : n + numbered s.body + sum_by (λ (x : Session). numbered x.body) (take k ss) ≡ n + sum_by (λ (x : Session). numbered x.body) (s ∷ take k ss) =
    omega (arith, c) in
    subst (StandsHere service flow (unwrap_or (slice_get (map (λ (x : Session). x.body) ss) k) done)) e
    (stands_here service flow ss firsts (n + numbered s.body) k out h.1)

module _ (service : Service) (f : Facts ℕ) (a : AcceptsPlaces service f) where
  abbrev flow : List Step
  flow = (plan_of service).steps

  accepts : (k : ℕ) → AcceptsFlow service f flow k
  accepts k =
      let l = stands_here service flow service.sessions (plan_of service).firsts 1 k (length flow) (stands_for_all service) in record {
        first = l.0;
        last = l.1;
        lowered = l.2;
        differ = at_body (λ c. AllPairs (λ v w. v ≢ w) (local_names c)) (λ i j d lt l. absurd (omega arith)) service.sessions
            (locals_differ service a.readable a.typed) k;
        obeys = a.obeys.points;
      }

  places_cover : CoversTurns service f
  places_cover = record {
    begins = first_covered service f a.obeys.literals;
    turns = λ k first inputs c i. flow_turn service f flow k first inputs (accepts k) c i;
    goes_on = λ k answer c. flow_going_on service f flow k answer (accepts k) c.locals c.shared c.later;
  }

pub flow_empty_is_covered : FlowEmptyIsCovered
flow_empty_is_covered service f a = covers_empty service f (places_cover service f a)

pub flow_steps_keep_covering : FlowStepsKeepCovering
flow_steps_keep_covering service f w request key a h =
    (stepped service f (places_cover service f a) w h request key, nexts service f (places_cover service f a) w h)

pub flow_worlds_are_covered : FlowWorldsAreCovered
flow_worlds_are_covered service f a = covers_reached service f (places_cover service f a)
