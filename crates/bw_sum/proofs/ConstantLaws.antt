-- The members of the summary of a template.
use Rattle.std.specs.Prelude.{◌≡◌, ℕ, zero, suc, ◌+◌, ◌<◌, nat_lt, Bool, true, false, ◌||◌, ◌&&◌, not, cond, ◌==◌, [], ◌∷◌}
use Rattle.std.proofs.Common.{refl, sym, ap, ◌∙◌, arith}
use Rattle.std.specs.Ordering.{nat_cmp, is_eq}
use Rattle.std.proofs.lemmas.Cmp.{nat_cmp_total}
use Rattle.std.proofs.lemmas.Bool.Decides.{nat_tests}
use Rattle.std.proofs.Math.Bool.{or-false, and-true, and-false}
use Rattle.bw_lang.specs.Document.Forest.{Forest}
use Rattle.bw_solve.specs.Sets.{has, merge}
use Rattle.bw_solve.specs.Lawful.SetLaws.{merge_has}
use Rattle.bw_sum.specs.Constants.{tracked, lacked}
use Rattle.bw_sum.specs.Labels.{pair_cmp}
use Rattle.bw_sum.specs.Lawful.LabelLaws.{pair_cmp_total}
use Rattle.bw_sum.specs.Laws.{ConstantByMembers}
use Rattle.bw_sum.specs.Opening.{opens}
use Rattle.bw_sum.proofs.PartLaws.{is_eq_nat, is_eq2, eq_back}

same_number : (a b : ℕ) → (a == b) ≡ true → a ≡ b
same_number a b h = grind (arith, nat_tests)

-- of the gaps below a number
next_track : (k h : ℕ) (lt ltn o p e r : Bool) → (k == h) ≡ e → nat_lt h k ≡ lt → nat_lt h (suc k) ≡ ltn → (e ≡ true → o ≡ p)
    → ((lt && (o && r)) || ((e && r) && p)) ≡ (ltn && (o && r))
next_track k h lt ltn o p true r a b c d =
    let same : k ≡ h = grind (arith, nat_tests) in
    let no : lt ≡ false = sym b ∙ grind (arith, nat_tests) in
    let yes : ltn ≡ true = sym c ∙ grind (arith, nat_tests) in
    ap (λ x. (x && (o && r)) || (r && p)) no ∙ ap (λ x. r && x) (sym (d refl)) ∙ swap r o ∙ sym (ap (λ x. x && (o && r)) yes)
  where
    swap : (x y : Bool) → (x && y) ≡ (y && x)
    swap true true = refl
    swap true false = refl
    swap false true = refl
    swap false false = refl
next_track k h lt ltn o p false r a b c d =
    let same : nat_lt h k ≡ nat_lt h (suc k) = grind (arith, nat_tests) in
    or-false (lt && (o && r)) ∙ ap (λ x. x && (o && r)) (sym b ∙ same ∙ c)

pub tracked_has : (n : ℕ) (items : Forest) (k h m : ℕ) → has pair_cmp (tracked n items k) (h, m) ≡ (nat_lt h k && (opens h items && (n == m)))
tracked_has n items zero h m = sym (ap (λ x. x && (opens h items && (n == m))) (let z : nat_lt h 0 ≡ false = grind (arith, nat_tests) in z))
tracked_has n items (suc k) h m = go (tracked_has n items k h m) (opens k items) refl
  where
    go : has pair_cmp (tracked n items k) (h, m) ≡ (nat_lt h k && (opens h items && (n == m))) → (b : Bool) → opens k items ≡ b
        → has pair_cmp (cond b (merge pair_cmp (tracked n items k) ((k, n) ∷ [])) (tracked n items k)) (h, m) ≡
        (nat_lt h (suc k) && (opens h items && (n == m)))
    go r true e =
        merge_has pair_cmp_total (tracked n items k) ((k, n) ∷ []) (h, m)
        ∙ ap (λ x. x || (is_eq (pair_cmp (k, n) (h, m)) || false)) r
        ∙ ap (λ x. (nat_lt h k && (opens h items && (n == m))) || x) (tail (is_eq (pair_cmp (k, n) (h, m))) ∙ ap (λ x. x && true) (is_eq2 k n h m))
        ∙ next_track k h (nat_lt h k) (nat_lt h (suc k)) (opens h items) true (k == h) (n == m) refl refl refl
        (λ s. sym (ap (λ j. opens j items) (same_number k h s)) ∙ e)
      where
        tail : (x : Bool) → (x || false) ≡ (x && true)
        tail true = refl
        tail false = refl
    go r false e =
        r ∙ sym (none (nat_lt h k && (opens h items && (n == m))) ((k == h) && (n == m)))
        ∙ next_track k h (nat_lt h k) (nat_lt h (suc k)) (opens h items) false (k == h) (n == m) refl refl refl
        (λ s. sym (ap (λ j. opens j items) (same_number k h s)) ∙ e)
      where
        none : (x y : Bool) → (x || (y && false)) ≡ x
        none true y = refl
        none false true = refl
        none false false = refl

pub lacked_has : (items : Forest) (k h : ℕ) → has nat_cmp (lacked items k) h ≡ (nat_lt h k && not (opens h items))
lacked_has items zero h = sym (ap (λ x. x && not (opens h items)) (let z : nat_lt h 0 ≡ false = grind (arith, nat_tests) in z))
lacked_has items (suc k) h = go (lacked_has items k h) (opens k items) refl
  where
    ones : (x y : Bool) → (x && y) ≡ (x && (y && true))
    ones true true = refl
    ones true false = refl
    ones false y = refl

    go : has nat_cmp (lacked items k) h ≡ (nat_lt h k && not (opens h items)) → (b : Bool) → opens k items ≡ b
        → has nat_cmp (cond b (lacked items k) (merge nat_cmp (lacked items k) (k ∷ []))) h ≡ (nat_lt h (suc k) && not (opens h items))
    go r true e =
        r ∙ ones (nat_lt h k) (not (opens h items)) ∙ sym (none (nat_lt h k && (not (opens h items) && true)) ((k == h) && true))
        ∙ next_track k h (nat_lt h k) (nat_lt h (suc k)) (not (opens h items)) false (k == h) true refl refl refl
        (λ s. ap not (sym (ap (λ j. opens j items) (same_number k h s)) ∙ e))
        ∙ sym (ones (nat_lt h (suc k)) (not (opens h items)))
      where
        none : (x y : Bool) → (x || (y && false)) ≡ x
        none true y = refl
        none false true = refl
        none false false = refl
    go r false e =
        merge_has nat_cmp_total (lacked items k) (k ∷ []) h
        ∙ ap (λ x. x || (is_eq (nat_cmp k h) || false)) r
        ∙ ap (λ x. (nat_lt h k && not (opens h items)) || x) (tail (is_eq (nat_cmp k h)) ∙ ap (λ x. (x && true) && true) (is_eq_nat k h))
        ∙ ap (λ x. x || (((k == h) && true) && true)) (ones (nat_lt h k) (not (opens h items)))
        ∙ next_track k h (nat_lt h k) (nat_lt h (suc k)) (not (opens h items)) true (k == h) true refl refl refl
        (λ s. ap not (sym (ap (λ j. opens j items) (same_number k h s)) ∙ e))
        ∙ sym (ones (nat_lt h (suc k)) (not (opens h items)))
      where
        tail : (x : Bool) → (x || false) ≡ ((x && true) && true)
        tail true = refl
        tail false = refl

known_track : (k g n m : ℕ) (o : Bool) → (o ≡ true → g < k) → (nat_lt g k && (o && (n == m))) ≡ ((m == n) && o)
known_track k g n m true h =
    let l : nat_lt g k ≡ true = let b = h refl in grind (arith, nat_tests) in
    ap (λ b. b && (n == m)) l ∙ eq_back n m ∙ sym (and-true (m == n))
known_track k g n m false h = and-false (nat_lt g k) ∙ sym (and-false (m == n))

pub constants : ConstantByMembers
constants literals templates n gaps known = record {
  root = λ m. or-false (is_eq (nat_cmp n m)) ∙ is_eq_nat n m ∙ eq_back n m;
  edge = λ m g k. refl;
  label = λ m g s. refl;
  track = λ g m. tracked_has n (templates n) (gaps + 3) g m ∙ known_track (gaps + 3) g n m (opens g (templates n)) (known g);
  lack = λ g. lacked_has (templates n) gaps g;
}
