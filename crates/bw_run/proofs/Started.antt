-- What a walk from a first point, or from behind a show, is.
use Rattle.std.proofs.Common.{◌≡◌, ◌≤◌, ℕ, ◌+◌, List, [], Some, refl, sym, ap, ◌∙◌, subst, arith}
use Rattle.std.specs.Prelude.{slice_get, Result, Ok, Err}
use Rattle.bw_lang.specs.declared.turn.TurnFault.{TurnFault}
use Rattle.bw_types.specs.declared.typed.Typed.{Typed}
use Rattle.bw_flow.specs.Steps.{Step, Plan}
use Rattle.bw_flow.specs.Layout.{plan_of}
use Rattle.bw_meaning.specs.GoOn.{turn}
use Rattle.bw_meaning.specs.States.{State, Outcome, budget, units_left, cost}
use Rattle.bw_meaning.proofs.Costs.{turn_costs}
use Rattle.bw_run.specs.declared.standing.Standing.{Standing}
use Rattle.bw_run.specs.declared.turn.Turn.{Turn}
use Rattle.bw_run.specs.declared.walk.Stop.{Stop}
use Rattle.bw_run.specs.declared.walk.Stop.TheVariants as stops
use Rattle.bw_run.specs.Code.{state}
use Rattle.bw_run.specs.Follow.Laws.{Settles}
use Rattle.bw_run.specs.Follow.Runs.{run}
use Rattle.bw_run.specs.Turns.{turned, IsTurn}
use Rattle.bw_run.specs.Walks.{stopped}
use Rattle.bw_eval.specs.declared.value.Value.{Value}
use Rattle.bw_eval.specs.View.{values}
use Rattle.bw_run.proofs.Follow.Kept.{typed_is_ready}
use Rattle.bw_run.proofs.Follow.Whole.{turns_agree}

pub one_outcome : (R : ℕ → Outcome) (o p : Outcome) → Settles R o → Settles R p → o ≡ p
one_outcome R o p a b = let n : a.0 + b.0 ≡ b.0 + a.0 = omega arith in sym (a.1 b.0) ∙ ap R n ∙ b.1 a.0

left_is : (flow : List Step) (stop : Result Stop TurnFault) (s : Standing) → units_left (stopped flow stop s) ≡ s.units
left_is flow (Ok (stops.Waits p d)) s = refl
left_is flow (Ok (stops.Ends d)) s = refl
left_is flow (Err f) s = refl

-- an outcome and a counter, as a turn
pub is_turn : (flow : List Step) (result : Result Turn TurnFault) (stop : Result Stop TurnFault) (s : Standing) (before after : ℕ) (o : Outcome) →
    stopped flow stop s ≡ o → after + s.units ≡ before + budget → cost o + units_left o ≡ budget → turned flow result s.units ≡ stopped flow stop s →
    IsTurn flow result before after o
is_turn flow result stop s before after o e c k r =
    let u : units_left o ≡ s.units = sym (ap units_left e) ∙ left_is flow stop s in
    record { outcome = ap (turned flow result) u ∙ r ∙ e; counter = omega arith }

pub started : (typed : Typed) (flow : Plan) (session first : ℕ) (shared : List (List ℕ × Value)) (result : Result Turn TurnFault)
    (stop : Result Stop TurnFault) (before after : ℕ) (s0 s1 : Standing) →
    flow ≡ plan_of typed.service → slice_get flow.firsts session ≡ Some first → s0.locals ≡ [] → s0.shared ≡ shared → s0.rests ≡ [] → s0.units ≡ budget →
    Settles (λ g. run typed.service flow.steps g first s0.rests (state s0)) (stopped flow.steps stop s1) → after + s1.units ≡ before + s0.units →
    turned flow.steps result s1.units ≡ stopped flow.steps stop s1 →
    IsTurn flow.steps result before after (turn typed.service session (values shared) [])
started typed flow session first shared result stop before after s0 s1 ef at el es er eu run0 c r =
    let service = typed.service in
    let st : State = record { locals = []; shared = values shared; units = budget; inputs = [] } in
    let law = turns_agree service session first (values shared) [] (typed_is_ready typed)
    (subst (λ (f : Plan). slice_get f.firsts session ≡ Some first) ef at) in
    let law1 = subst (λ (f : Plan). Settles (λ g. run service f.steps g first [] st) (turn service session (values shared) [])) (sym ef) law in
    let same : state s0 ≡ st = λ k. record { locals = values (el k); shared = values (es k); units = eu k; inputs = [] } in
    let run2 = subst (λ rs. Settles (λ g. run service flow.steps g first rs (state s0)) (stopped flow.steps stop s1)) er run0 in
    let run3 = subst (λ z. Settles (λ g. run service flow.steps g first [] z) (stopped flow.steps stop s1)) same run2 in
    is_turn flow.steps result stop s1 before after (turn service session (values shared) [])
    (one_outcome (λ g. run service flow.steps g first [] st) (stopped flow.steps stop s1) (turn service session (values shared) []) run3 law1)
    (c ∙ ap (λ n. before + n) eu) (turn_costs service session (values shared) []) r

-- it costs at most the budget
pub within_budget : (a b u w : ℕ) → a + u ≡ b + w → w ≡ budget → a ≤ b + 100000
within_budget a b u w e f = omega arith
