-- Runs: what stands in one list below the next item of the other is merged in one piece.
use Rattle.std.proofs.Common.{◌≡◌, ℕ, zero, suc, ◌+◌, ◌-◌, ◌<◌, List, [], ◌∷◌, ◌++◌, length, get_or, take, drop, refl, sym, ap, ◌∙◌, subst, arith, append_assoc}
use Rattle.std.specs.declared.cmp.Ordering.{Ordering}
use Rattle.std.specs.declared.cmp.Ordering.TheVariants.{Less}
use Rattle.std.specs.Cmp.{IsTotalOrder}
use Rattle.std.specs.Ordering.{match_ordering, ordering_reverse}
use Rattle.std.specs.List.{AllByRecursion}
use Rattle.std.proofs.lemmas.List.{drop-drop, take_rest}
use Rattle.bw_solve.specs.Sets.{IsSet, merge, merge_into}
use Rattle.bw_solve.proofs.Walk.{left_at}

all_take : {T : Type 0} (P : T → Type 0) (n : ℕ) (xs : List T) → AllByRecursion P xs → AllByRecursion P (take n xs)
all_take P zero xs h = tt
all_take P (suc n) [] h = tt
all_take P (suc n) (x ∷ xs) h = (h.0, all_take P n xs h.1)

pub set_take : {T : Type 0} (cmp : T → T → Ordering) (n : ℕ) (xs : List T) → IsSet cmp xs → IsSet cmp (take n xs)
set_take cmp zero xs s = tt
set_take cmp (suc n) [] s = tt
set_take cmp (suc n) (x ∷ xs) s = (all_take (λ y. cmp x y ≡ Less) n xs s.0, set_take cmp n xs s.1)

-- what stands below the first item of the second list goes in front
pub run_left : {T : Type 0} (cmp : T → T → Ordering) (y : T) (ys : List T) (n : ℕ) (xs : List T) → AllByRecursion (λ x. cmp x y ≡ Less) (take n xs)
    → take n xs ++ merge cmp (drop n xs) (y ∷ ys) ≡ merge cmp xs (y ∷ ys)
run_left cmp y ys zero xs h = refl
run_left cmp y ys (suc n) [] h = refl
run_left cmp y ys (suc n) (x ∷ xs) h =
    ap (λ l. x ∷ l) (run_left cmp y ys n xs h.1)
    ∙ sym (ap (λ r. match_ordering r (x ∷ merge cmp xs (y ∷ ys)) (x ∷ merge cmp xs ys) (y ∷ merge_into cmp x xs (merge cmp xs) ys)) h.0)

-- what stands below the first item of the first list goes in front
pub run_right : {T : Type 0} {cmp : T → T → Ordering} (o : IsTotalOrder cmp) (x : T) (xs : List T) (n : ℕ) (ys : List T)
    → AllByRecursion (λ y. cmp y x ≡ Less) (take n ys) → take n ys ++ merge cmp (x ∷ xs) (drop n ys) ≡ merge cmp (x ∷ xs) ys
run_right o x xs zero ys h = refl
run_right o x xs (suc n) [] h = refl
run_right {T} {cmp} o x xs (suc n) (y ∷ ys) h =
    ap (λ l. y ∷ l) (run_right o x xs n ys h.1)
    ∙ sym (ap (λ r. match_ordering r (x ∷ merge cmp xs (y ∷ ys)) (x ∷ merge cmp xs ys) (y ∷ merge_into cmp x xs (merge cmp xs) ys))
    (o.antisymm x y ∙ ap ordering_reverse h.0))

-- a run of one list, from its place on, is merged behind what is there
module _ {T : Type 0} (all new xs m : List T) (i r : ℕ) (e : new ≡ all ++ take ((i + r) - i) (drop i xs)) where
  behind : (rest : List T → List T) → take r (drop i xs) ++ rest (drop r (drop i xs)) ≡ rest (drop i xs) → all ++ rest (drop i xs) ≡ m
      → new ++ rest (drop (i + r) xs) ≡ m
  behind rest front done =
      ap (λ l. l ++ rest (drop (i + r) xs)) (e ∙ ap (λ n. all ++ take n (drop i xs)) (let k : (i + r) - i ≡ r = omega arith in k))
      ∙ ap (λ l. (all ++ take r (drop i xs)) ++ rest l) (sym (drop-drop r i xs)) ∙ append_assoc all (take r (drop i xs)) (rest (drop r (drop i xs)))
      ∙ ap (λ l. all ++ l) front ∙ done

  pub left_behind : (cmp : T → T → Ordering) (ys : List T) (j : ℕ) (y : T) → j < length ys → y ≡ get_or ys j y
      → AllByRecursion (λ x. cmp x y ≡ Less) (take r (take (length xs - i) (drop i xs)))
      → all ++ merge cmp (drop i xs) (drop j ys) ≡ m → new ++ merge cmp (drop (i + r) xs) (drop j ys) ≡ m
  left_behind cmp ys j y h q below done = behind (λ l. merge cmp l (drop j ys))
      (subst (λ l. take r (drop i xs) ++ merge cmp (drop r (drop i xs)) l ≡ merge cmp (drop i xs) l) (sym (left_at ys j y h q))
      (run_left cmp y (drop (j + 1) ys) r (drop i xs) (subst (λ l. AllByRecursion (λ x. cmp x y ≡ Less) (take r l)) (take_rest xs i) below)))
      done

  pub right_behind : {cmp : T → T → Ordering} → IsTotalOrder cmp → (ys : List T) (j : ℕ) (y : T) → j < length ys → y ≡ get_or ys j y
      → AllByRecursion (λ x. cmp x y ≡ Less) (take r (take (length xs - i) (drop i xs)))
      → all ++ merge cmp (drop j ys) (drop i xs) ≡ m → new ++ merge cmp (drop j ys) (drop (i + r) xs) ≡ m
  right_behind {cmp} o ys j y h q below done = behind (λ l. merge cmp (drop j ys) l)
      (subst (λ l. take r (drop i xs) ++ merge cmp l (drop r (drop i xs)) ≡ merge cmp l (drop i xs)) (sym (left_at ys j y h q))
      (run_right o y (drop (j + 1) ys) r (drop i xs) (subst (λ l. AllByRecursion (λ x. cmp x y ≡ Less) (take r l)) (take_rest xs i) below)))
      done
