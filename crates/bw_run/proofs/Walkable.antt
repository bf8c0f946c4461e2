-- The flow of a service that is well typed can be walked.
use Rattle.std.proofs.Common.{◌≡◌, ◌⊎◌, ℕ, zero, suc, ◌+◌, ◌-◌, ◌<◌, Bool, true, false, List, [], ◌∷◌, ◌++◌, length, Option, Some, None, refl, sym}
use Rattle.std.proofs.Common.{ap, ◌∙◌, subst, inl, inr, arith}
use Rattle.std.specs.Prelude.{slice_get, if◌then◌else◌}
use Rattle.std.specs.List.{All}
use Rattle.std.proofs.lemmas.List.Elements.{All-head, All-tail}
use Rattle.std.proofs.lemmas.Option.{slice_get_within}
use Rattle.bw_lang.specs.declared.service.Service.{Service}
use Rattle.bw_lang.specs.declared.service.Session.{Session}
use Rattle.bw_lang.specs.Service.Code.{Code, done, declare, assign, if_then, if_else, while_loop, block, for_each, show, exit, numbered}
use Rattle.bw_types.specs.declared.typed.Typed.{Typed}
use Rattle.bw_typed.specs.ShortStrings.{CodeHasShort}
use Rattle.bw_flow.specs.declared.point.Local.{Local}
use Rattle.bw_flow.specs.Flows.{is_join}
use Rattle.bw_flow.specs.Layout.{count, enter, steps, session_steps, points, plan_of}
use Rattle.bw_flow.specs.Places.{Among, IsOne, AreTwo, HasNexts, join_of, JoinsRise}
use Rattle.bw_flow.specs.Stands.{IsAt}
use Rattle.bw_flow.specs.Steps.{Act, Step}
use Rattle.bw_flow.specs.Steps as acts
use Rattle.bw_flow.proofs.Joins.{all_joins_rise}
use Rattle.bw_flow.proofs.Nexts.{all_have_nexts}
use Rattle.bw_flow.proofs.OfTyped.{nexts_are_inside}
use Rattle.bw_run.specs.Follow.Runs.{first_of, second_of}
use Rattle.bw_typed.proofs.ShortServices.{sessions_have_short}
use Rattle.bw_run.specs.Code.{ActIsShort}
use Rattle.bw_run.specs.Walks.{rank_of, rank}

-- points lead to points, joins alone make no circle, and string literals are short
pub record IsWalkable (flow : List Step) : Type 0 where
  pub first : (p : ℕ) (x : Step) → IsAt flow p x → first_of x.next < length flow
  pub second : (p : ℕ) (x : Step) → IsAt flow p x → second_of x.next < length flow
  pub joins : (p : ℕ) (x : Step) → IsAt flow p x → is_join x.act ≡ true → rank flow (first_of x.next) < rank flow p
  pub short : (p : ℕ) (x : Step) → IsAt flow p x → ActIsShort x.act

-- ---- literals

abbrev AllShort : List Step → Type 0
AllShort [] = Unit {0}
AllShort (x ∷ xs) = ActIsShort x.act × AllShort xs

parts_short : (xs ys : List Step) → AllShort xs → AllShort ys → AllShort (xs ++ ys)
parts_short [] ys a b = b
parts_short (x ∷ xs) ys a b = (a.0, parts_short xs ys a.1 b)

short_at : (xs : List Step) (p : ℕ) (x : Step) → AllShort xs → slice_get xs p ≡ Some x → ActIsShort x.act
short_at [] p x h e = cc
short_at (y ∷ ys) zero x h e = subst (λ (z : Step). ActIsShort z.act) (let f : y ≡ x = cc in f) h.0
short_at (y ∷ ys) (suc p) x h e = short_at ys p x h.1 e

module _ (service : Service) where
  steps_short : (c : Code) (n : ℕ) (sc : List Local) (d p q : ℕ) → CodeHasShort c → AllShort (steps service c n sc d p q)
  steps_short done n sc d p q h = tt
  steps_short (declare k w e rest) n sc d p q h = (h.0, steps_short rest _ _ d (p + 1) q h.1)
  steps_short (assign w e rest) n sc d p q h = (h.0, steps_short rest (n + 1) sc d (p + 1) q h.1)
  steps_short (if_then e y rest) n sc d p q h =
      let join = p + 1 + count y in (
        h.0,
        parts_short (steps service y (n + 1) sc d (p + 1) join) _ (steps_short y (n + 1) sc d (p + 1) join h.1)
            (tt, steps_short rest (n + 1 + numbered y) sc d (join + 1) q h.2),
      )
  steps_short (if_else e y o rest) n sc d p q h =
      let other = p + 1 + count y in let join = other + count o in (
        h.0,
        parts_short (steps service y (n + 1) sc d (p + 1) join) _ (steps_short y (n + 1) sc d (p + 1) join h.1)
            (parts_short (steps service o (n + 1 + numbered y) sc d other join) _ (steps_short o (n + 1 + numbered y) sc d other join h.2)
            (tt, steps_short rest (n + 1 + numbered y + numbered o) sc d (join + 1) q h.3)),
      )
  steps_short (while_loop e b rest) n sc d p q h = (
    h.0,
    parts_short (steps service b (n + 1) sc d (p + 1) p) _ (steps_short b (n + 1) sc d (p + 1) p h.1)
        (steps_short rest (n + 1 + numbered b) sc d (p + 1 + count b) q h.2),
  )
  steps_short (for_each w e b rest) n sc d p q h = (
    h.0,
    parts_short (steps service b (n + 1) _ (d + 1) (p + 1) p) _ (steps_short b (n + 1) _ (d + 1) (p + 1) p h.1)
        (steps_short rest (n + 1 + numbered b) sc d (p + 1 + count b) q h.2),
  )
  steps_short (block b rest) n sc d p q h =
      let r = enter rest (p + count b) q in
      parts_short (steps service b n sc d p r) _ (steps_short b n sc d p r h.0) (steps_short rest (n + numbered b) sc d (p + count b) q h.1)
  steps_short (show e rs rest) n sc d p q h = (h.0, steps_short rest (n + 1) sc d (p + 1) q h.1)
  steps_short (exit e rest) n sc d p q h = (h.0, steps_short rest (n + 1) sc d (p + 1) q h.1)

  sessions_short : (ss : List Session) (n p out : ℕ) → All (λ s. CodeHasShort s.body) ss → AllShort (session_steps service ss n p out)
  sessions_short [] n p out h = tt
  sessions_short (s ∷ ss) n p out h =
      parts_short (steps service s.body n [] 0 p out) _ (steps_short s.body n [] 0 p out (All-head (λ s. CodeHasShort s.body) s ss h))
      (sessions_short ss (n + numbered s.body) (p + count s.body) out (All-tail (λ s. CodeHasShort s.body) s ss h))

-- ---- places

abbrev Inside : ℕ → List ℕ → Type 0
Inside n next = (first_of next < n) × (second_of next < n)

inside_one : (n : ℕ) (next : List ℕ) → 0 < n → ((q : ℕ) → Among q next → q < n) → IsOne next → Inside n next
inside_one n next some h one = subst (Inside n) (sym one.1) (h one.0 (subst (Among one.0) (sym one.1) (inl refl)), some)

inside_two : (n : ℕ) (next : List ℕ) → ((q : ℕ) → Among q next → q < n) → AreTwo next → Inside n next
inside_two n next h two =
    subst (Inside n) (sym two.2) (h two.0 (subst (Among two.0) (sym two.2) (inl refl)), h two.1 (subst (Among two.1) (sym two.2) (inr (inl refl))))

inside_by : (n : ℕ) (a : Act) (next : List ℕ) → 0 < n → ((q : ℕ) → Among q next → q < n) → HasNexts a next → Inside n next
inside_by n (acts.sets w e) next some h t = inside_one n next some h t
inside_by n (acts.tests e) next some h t = inside_two n next h t
inside_by n (acts.goes_over w e) next some h t = inside_two n next h t
inside_by n (acts.shows e rs) next some h t = inside_one n next some h t
inside_by n (acts.exits e) next some h t = subst (Inside n) (sym t) (some, some)
inside_by n acts.joins next some h t = inside_one n next some h t

inside : (typed : Typed) (p : ℕ) (x : Step) → IsAt (plan_of typed.service).steps p x → Inside (length (plan_of typed.service).steps) x.next
inside typed p x at =
    let flow = (plan_of typed.service).steps in
    let lt = slice_get_within flow p x at in
    inside_by (length flow) x.act x.next (omega arith) (λ q a. nexts_are_inside typed p q x at a) (all_have_nexts typed.service p x at)

-- ---- joins

join_one : (a : Act) (next : List ℕ) → is_join a ≡ true → HasNexts a next → IsOne next
join_one (acts.sets w e) next j h = cc
join_one (acts.tests e) next j h = cc
join_one (acts.goes_over w e) next j h = cc
join_one (acts.shows e rs) next j h = cc
join_one (acts.exits e) next j h = cc
join_one acts.joins next j h = h

rank_none : (n q : ℕ) (o : Option Step) → join_of o ≡ false → rank_of n o q ≡ 0
rank_none n q None e = refl
rank_none n q (Some x) e = ap (λ b. if b then n - q else 0) e

rank_below : (n p q : ℕ) (o : Option Step) → p < n → p < q → rank_of n o q < n - p
rank_below n p q None a b = omega arith
rank_below n p q (Some x) a b = by_test (is_join x.act)
  where
    by_test : (b : Bool) → (if b then n - q else 0) < n - p
    by_test true = omega arith
    by_test false = omega arith

rank_join : (flow : List Step) (p : ℕ) (x : Step) → IsAt flow p x → is_join x.act ≡ true → rank flow p ≡ length flow - p
rank_join flow p x at j = ap (λ o. rank_of (length flow) o p) at ∙ ap (λ b. if b then length flow - p else 0) j

joins_fall : (flow : List Step) (p : ℕ) (x : Step) → JoinsRise flow → IsAt flow p x → is_join x.act ≡ true → IsOne x.next →
    rank flow (first_of x.next) < rank flow p
joins_fall flow p x rise at j one =
    let lt = slice_get_within flow p x at in
    subst (λ r. rank flow (first_of x.next) < r) (sym (rank_join flow p x at j))
    (subst (λ next. rank flow (first_of next) < length flow - p) (sym one.1) (by_case lt (rise p one.0 x at j one.1)))
  where
    by_case : p < length flow → (p < one.0) ⊎ (join_of (slice_get flow one.0) ≡ false) → rank flow one.0 < length flow - p
    by_case lt (inl h) = rank_below (length flow) p one.0 (slice_get flow one.0) lt h
    by_case lt (inr h) = let z = rank_none (length flow) one.0 (slice_get flow one.0) h in omega arith

pub walkable : (typed : Typed) → IsWalkable (plan_of typed.service).steps
walkable typed =
    let service = typed.service in
    let flow = (plan_of service).steps in
    record {
      first = λ p x at. (inside typed p x at).0;
      second = λ p x at. (inside typed p x at).1;
      joins = λ p x at j. joins_fall flow p x (all_joins_rise service) at j (join_one x.act x.next j (all_have_nexts service p x at));
      short = λ p x at. short_at flow p x
          (sessions_short service service.sessions 1 0 (points service.sessions) (sessions_have_short service typed.readable)) at;
    }
