-- What falls from point to point.
use Rattle.std.proofs.Common.{◌≡◌, ℕ, suc, ◌+◌, ◌*◌, ◌-◌, ◌<◌, ◌≤◌, Bool, true, false, List, length, Option, Some, None, refl, sym, ap, ◌∙◌}
use Rattle.std.proofs.Common.{subst, arith}
use Rattle.std.specs.Prelude.{slice_get, if◌then◌else◌, Result, Ok, Err, IfOk, OnOk}
use Rattle.std.proofs.Math.Nat.{mul-le-mul_right}
use Rattle.bw_lang.specs.declared.service.Service.{Service}
use Rattle.bw_lang.specs.declared.turn.TurnFault.{TurnFault}
use Rattle.bw_flow.specs.Flows.{is_join}
use Rattle.bw_flow.specs.Steps.{Act, Step}
use Rattle.bw_flow.specs.Steps as acts
use Rattle.bw_meaning.specs.States.{Outcome, Failed}
use Rattle.bw_run.specs.declared.standing.Standing.{Standing}
use Rattle.bw_run.specs.declared.step.Stepped.{Stepped}
use Rattle.bw_run.specs.declared.step.Stepped.TheVariants.{First, Second}
use Rattle.bw_run.specs.Code.{pays, state}
use Rattle.bw_run.specs.Follow.Laws.{Settles}
use Rattle.bw_run.specs.Follow.Runs.{run}
use Rattle.bw_eval.specs.Evaluations.{HasMemory}
use Rattle.bw_run.specs.declared.walk.Advance.{Advance}
use Rattle.bw_run.specs.declared.walk.Stop.{Stop}
use Rattle.bw_run.specs.Walks.{rank, rank_of, measure, advanced, stopped}

rank_of_le : (n p : ℕ) (o : Option Step) → rank_of n o p ≤ n
rank_of_le n p None = omega arith
rank_of_le n p (Some x) = by_join (is_join x.act)
  where
    by_join : (b : Bool) → (if b then n - p else 0) ≤ n
    by_join true = omega arith
    by_join false = omega arith

less_paid : (u v k r s : ℕ) → v + 1 ≤ u → s < k → v * k + s < u * k + r
less_paid u v k r s a b = let m : (v + 1) * k ≤ u * k = mul-le-mul_right k a in let n : (v + 1) * k ≡ v * k + k = omega arith in omega arith

less_join : (u v k r s : ℕ) → v ≤ u → s < r → v * k + s < u * k + r
less_join u v k r s a b = let m : v * k ≤ u * k = mul-le-mul_right k a in omega arith

pub less_one : (flow : List Step) (p q u v : ℕ) → v + 1 ≤ u → measure flow q v < measure flow p u
less_one flow p q u v a = let h = rank_of_le (length flow) q (slice_get flow q) in less_paid u v (length flow + 2) (rank flow p) (rank flow q) a (omega arith)

less_act : (flow : List Step) (p q u v : ℕ) (a : Act) → v + pays a First ≤ u → (is_join a ≡ true → rank flow q < rank flow p) →
    measure flow q v < measure flow p u
less_act flow p q u v (acts.sets w e) h j = less_one flow p q u v h
less_act flow p q u v (acts.tests e) h j = less_one flow p q u v h
less_act flow p q u v (acts.goes_over w e) h j = less_one flow p q u v h
less_act flow p q u v (acts.shows e rs) h j = less_one flow p q u v h
less_act flow p q u v (acts.exits e) h j = less_one flow p q u v h
less_act flow p q u v acts.joins h j = less_join u v (length flow + 2) (rank flow p) (rank flow q) (omega arith) (j refl)

pub less_first : (flow : List Step) (p q q' u u' v : ℕ) (x : Step) (s : Stepped) → s ≡ First → q ≡ q' → u' ≡ u → v + pays x.act s ≤ u' →
    (is_join x.act ≡ true → rank flow q' < rank flow p) → measure flow q v < measure flow p u
less_first flow p q q' u u' v x s es eq eu h j =
    subst (λ z. measure flow z v < measure flow p u) (sym eq)
    (less_act flow p q' u v x.act (subst (λ t. v + pays x.act t ≤ u) es (subst (λ t. v + pays x.act s ≤ t) eu h)) j)

second_pays : (a : Act) → pays a Second ≡ 1
second_pays (acts.sets w e) = refl
second_pays (acts.tests e) = refl
second_pays (acts.goes_over w e) = refl
second_pays (acts.shows e rs) = refl
second_pays (acts.exits e) = refl
second_pays acts.joins = refl

pub less_second : (flow : List Step) (p q u u' v : ℕ) (x : Step) (s : Stepped) → s ≡ Second → u' ≡ u → v + pays x.act s ≤ u' →
    measure flow q v < measure flow p u
less_second flow p q u u' v x s es eu h =
    let e = ap (pays x.act) es ∙ second_pays x.act in
    less_one flow p q u v (omega arith)

-- ---- coming to a place

abbrev pub Follows : Service → List Step → ℕ → Standing → ℕ → Standing → Type 0
Follows service flow start s p t = (c : ℕ) × ((g : ℕ) → run service flow (c + g) start s.rests (state s) ≡ run service flow g p t.rests (state t))

pub follows_here : (service : Service) (flow : List Step) (p : ℕ) (s : Standing) → Follows service flow p s p s
follows_here service flow p s = (0, λ g. let e : 0 + g ≡ g = omega arith in ap (λ n. run service flow n p s.rests (state s)) e)

pub follows_on : (service : Service) (flow : List Step) (start p q : ℕ) (s t u : Standing) → Follows service flow start s p t →
    ((g : ℕ) → run service flow (suc g) p t.rests (state t) ≡ run service flow g q u.rests (state u)) → Follows service flow start s q u
follows_on service flow start p q s t u f h = (
  f.0 + 1,
  λ g.
      let n : f.0 + 1 + g ≡ f.0 + suc g = omega arith in
      ap (λ k. run service flow k start s.rests (state s)) n ∙ f.1 (suc g) ∙ h g,
)

pub follows_end : (service : Service) (flow : List Step) (start p : ℕ) (s t : Standing) (o : Outcome) → Follows service flow start s p t →
    ((g : ℕ) → run service flow (suc g) p t.rests (state t) ≡ o) → Settles (λ g. run service flow g start s.rests (state s)) o
follows_end service flow start p s t o f h = (
  f.0 + 1,
  λ g.
      let n : f.0 + 1 + g ≡ f.0 + suc g = omega arith in
      ap (λ k. run service flow k start s.rests (state s)) n ∙ f.1 (suc g) ∙ h g,
)

pub fault_end : (service : Service) (flow : List Step) (start p : ℕ) (s t u : Standing) (a : Result Advance TurnFault) (r : Result Stop TurnFault)
    (f : TurnFault) → a ≡ Err f → r ≡ Err f → Follows service flow start s p t →
    ((g : ℕ) → HasMemory a → run service flow (suc g) p t.rests (state t) ≡ advanced service flow p g a u) → HasMemory r →
    Settles (λ g. run service flow g start s.rests (state s)) (stopped flow r u)
fault_end service flow start p s t u a r f ea er k h m =
    let m1 : HasMemory {A = Advance} (Err f) = subst (λ x. HasMemory {A = Stop} x) er m in
    let h1 = subst (λ x. (g : ℕ) → HasMemory x → run service flow (suc g) p t.rests (state t) ≡ advanced service flow p g x u) ea h in
    subst (λ x. Settles (λ g. run service flow g start s.rests (state s)) (stopped flow x u)) (sym er)
    (follows_end service flow start p s t (Failed f u.units) k (λ g. h1 g m1))

pub ok_run : (service : Service) (flow : List Step) (p : ℕ) (t u : Standing) (a : Result Advance TurnFault) (x : Advance) → a ≡ Ok x →
    ((g : ℕ) → HasMemory a → run service flow (suc g) p t.rests (state t) ≡ advanced service flow p g a u) → (g : ℕ) →
    run service flow (suc g) p t.rests (state t) ≡ advanced service flow p g (Ok x) u
ok_run service flow p t u a x e h g = subst (λ y. (g : ℕ) → HasMemory y →
    run service flow (suc g) p t.rests (state t) ≡ advanced service flow p g y u) e h g tt

pub ok_fact : (a : Result Advance TurnFault) (x : Advance) (P : Advance → Type 0) → a ≡ Ok x → IfOk a P → P x
ok_fact a x P e h = subst (λ y. IfOk y P) e h

pub ok_on : (a : Result Advance TurnFault) (x : Advance) (P : Type 0) → a ≡ Ok x → OnOk a P → P
ok_on a x P e h = subst (λ y. OnOk y P) e h
