-- Finding a statement's point.
use Rattle.std.proofs.Common.{◌≡◌, ◌⊎◌, ℕ, zero, suc, ◌+◌, ◌<◌, ◌≤◌, Bool, true, false, cond, List, [], ◌∷◌, length, refl, ap, sym, ◌∙◌, subst, inl, inr, arith}
use Rattle.std.proofs.Common.{Some, None}
use Rattle.std.specs.Prelude.{slice_get, not, ◌&&◌, nat_eq, nat_lt}
use Rattle.std.specs.List.{position_or_len}
use Rattle.std.proofs.lemmas.Bool.Decides.{nat_tests}
use Rattle.bw_flow.specs.Flows.{is_join, is_statement}
use Rattle.bw_flow.specs.Layout.{points, session_steps}
use Rattle.bw_flow.specs.Numbers.{numbers_of, numbers_from, FindsEach}
use Rattle.bw_flow.specs.Steps.{Step}
use Rattle.bw_flow.proofs.Parts.{either}
use Rattle.bw_flow.proofs.Parts.{sizes, sizes_are}
use Rattle.bw_flow.proofs.Numbered.{first_taken, numbers_skip, sessions_in_order}
use Rattle.bw_flow.proofs.Spots.{Within, sessions_within}

-- ---- the first place

-- a place where the test holds
abbrev There : (Step → Bool) → List Step → ℕ → Type 0
There f xs i = (x : Step) × (slice_get xs i ≡ Some x) × (f x ≡ true)

there_behind : (f : Step → Bool) (y : Step) (xs : List Step) (i : ℕ) → There f xs i → There f (y ∷ xs) (1 + i)
there_behind f y xs i h = let e : suc i ≡ 1 + i = omega arith in subst (There f (y ∷ xs)) e h

first_there : (f : Step → Bool) (xs : List Step) → position_or_len f xs < length xs → There f xs (position_or_len f xs)
first_there f [] h = absurd (omega arith)
first_there f (x ∷ xs) h = by (f x) refl (first_there f xs) h
  where
    by : (b : Bool) → f x ≡ b → (position_or_len f xs < length xs → There f xs (position_or_len f xs)) →
        cond (not b) (1 + position_or_len f xs) 0 < length (x ∷ xs) → There f (x ∷ xs) (cond (not b) (1 + position_or_len f xs) 0)
    by true e go l = (x, refl, e)
    by false e go l = there_behind f x xs (position_or_len f xs) (go (omega arith))

has_first : (f : Step → Bool) (xs : List Step) (i : ℕ) → There f xs i → position_or_len f xs < length xs
has_first f [] i h = let e : None ≡ Some h.0 = h.1 in absurd (cc)
has_first f (x ∷ xs) zero h = by (f x) (let e : h.0 ≡ x = cc in ap f (sym e) ∙ h.2)
  where
    by : (b : Bool) → b ≡ true → cond (not b) (1 + position_or_len f xs) 0 < length (x ∷ xs)
    by true e = omega arith
    by false e = absurd (cc)
has_first f (x ∷ xs) (suc i) h = by (f x) (has_first f xs i h)
  where
    by : (b : Bool) → position_or_len f xs < length xs → cond (not b) (1 + position_or_len f xs) 0 < length (x ∷ xs)
    by true l = omega arith
    by false l = omega arith

found : (n m p : ℕ) (b : Bool) → nat_lt n m ≡ b → cond b (Some n) None ≡ Some p → (n ≡ p) × (n < m)
found n m p true e h = (cc, grind (arith, nat_tests))
found n m p false e h = absurd (cc)

finds : (n m : ℕ) → n < m → cond (nat_lt n m) (Some n) None ≡ Some n
finds n m h = let e : nat_lt n m ≡ true = grind (arith, nat_tests) in ap (λ (b : Bool). cond b (Some n) None) e

-- ---- statements

self_eq : (k : ℕ) → nat_eq k k ≡ true
self_eq k = grind (arith, nat_tests)

is_one : (x : Step) (k : ℕ) → x.number ≡ k → is_join x.act ≡ false → is_statement k x ≡ true
is_one x k e j = (λ i. nat_eq (e i) k && not (j i)) ∙ ap (λ b. b && true) (self_eq k)

one_is : (x : Step) (k : ℕ) → is_statement k x ≡ true → (x.number ≡ k) × (is_join x.act ≡ false)
one_is x k h = by (nat_eq x.number k) (is_join x.act) refl refl h
  where
    by : (a b : Bool) → nat_eq x.number k ≡ a → is_join x.act ≡ b → (a && not b) ≡ true → (x.number ≡ k) × (is_join x.act ≡ false)
    by true true ea eb e = absurd (cc)
    by true false ea eb e = (grind (arith, nat_tests), eb)
    by false b ea eb e = absurd (cc)

same_or_more : (n k : ℕ) → n ≤ k → (n ≡ k) ⊎ (n + 1 ≤ k)
same_or_more zero zero h = inl refl
same_or_more zero (suc k) h = inr (omega arith)
same_or_more (suc n) zero h = absurd (omega arith)
same_or_more (suc n) (suc k) h = by (same_or_more n k (omega arith))
  where
    by : (n ≡ k) ⊎ (n + 1 ≤ k) → (suc n ≡ suc k) ⊎ (suc n + 1 ≤ suc k)
    by (inl e) = inl (ap suc e)
    by (inr l) = inr (omega arith)

number_there : (xs : List Step) (n m k : ℕ) → numbers_of xs ≡ numbers_from n m → n ≤ k → k < n + m → (i : ℕ) × There (is_statement k) xs i
number_there [] n zero k h l u = absurd (omega arith)
number_there [] n (suc m) k h l u = absurd (let f : [] ≡ n ∷ numbers_from (n + 1) m = h in cc)
number_there (x ∷ xs) n m k h l u = by (either (is_join x.act)) (number_there xs n m k) (λ r. number_there xs (n + 1) r k)
  where
    behind : (i : ℕ) × There (is_statement k) xs i → (i : ℕ) × There (is_statement k) (x ∷ xs) i
    behind r = (suc r.0, r.1)

    rest : (r : ℕ) → x.number ≡ n → numbers_of xs ≡ numbers_from (n + 1) r → is_join x.act ≡ false → (n ≡ k) ⊎ (n + 1 ≤ k) → k < n + 1 + r
        → ((r : ℕ) → numbers_of xs ≡ numbers_from (n + 1) r → n + 1 ≤ k → k < n + 1 + r → (i : ℕ) × There (is_statement k) xs i) →
        (i : ℕ) × There (is_statement k) (x ∷ xs) i
    rest r e service j (inl same) v past = (0, (x, refl, is_one x k (e ∙ same) j))
    rest r e service j (inr more) v past = behind (past r service more v)

    by : (is_join x.act ≡ true) ⊎ (is_join x.act ≡ false) → (numbers_of xs ≡ numbers_from n m → n ≤ k → k < n + m → (i : ℕ) × There (is_statement k) xs i)
        → ((r : ℕ) → numbers_of xs ≡ numbers_from (n + 1) r → n + 1 ≤ k → k < n + 1 + r → (i : ℕ) × There (is_statement k) xs i) →
        (i : ℕ) × There (is_statement k) (x ∷ xs) i
    by (inl j) skip past = behind (skip (sym (numbers_skip x xs j) ∙ h) l u)
    by (inr j) skip past =
        let r = first_taken x xs n m h j in rest r.0 r.1 r.2 j (same_or_more n k l) (let e = r.3 in omega arith) past

within_at : (lo hi : ℕ) (xs : List Step) (i : ℕ) (x : Step) → Within lo hi xs → slice_get xs i ≡ Some x → (lo ≤ x.number) × (x.number < hi)
within_at lo hi [] i x w at = let e : None ≡ Some x = at in absurd (cc)
within_at lo hi (y ∷ xs) zero x w at = let e : y ≡ x = cc in subst (λ (z : Step). (lo ≤ z.number) × (z.number < hi)) e (w.0, w.1)
within_at lo hi (y ∷ xs) (suc i) x w at = within_at lo hi xs i x w.2 at

pub finds_each : FindsEach
finds_each service k =
    let flow = session_steps service service.sessions 1 0 (points service.sessions) in
    let total = sizes_are service.sessions in
    let n = position_or_len (is_statement k) flow in (
      λ p h.
          let f = found n (length flow) p (nat_lt n (length flow)) refl h in
          let w = first_there (is_statement k) flow f.1 in
          let s = one_is w.0 k w.2 in
          let b = within_at 1 (1 + sizes service.sessions) flow n w.0 (sessions_within service service.sessions 1 0 (points service.sessions)) w.1 in
          let lo = b.0 in let hi = b.1 in let e = s.0 in
          (w.0, subst (λ i. slice_get flow i ≡ Some w.0) f.0 w.1, s.0, s.1, omega arith, omega arith),
      λ a b.
          let r = number_there flow 1 (sizes service.sessions) k (sessions_in_order service service.sessions 1 0 (points service.sessions)) a (omega arith) in
          (n, finds n (length flow) (has_first (is_statement k) flow r.0 r.1)),
    )
