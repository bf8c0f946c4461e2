-- Fronts of which each byte passes a test.
use Rattle.std.proofs.Common.{◌≡◌, ℕ, zero, suc, ◌+◌, ◌-◌, ◌<◌, ◌≤◌, Bool, true, false, List, [], ◌∷◌, ◌++◌, length, take, refl, ap, ◌∙◌, arith, ◌⊎◌}
use Rattle.std.proofs.Common.{inl, inr, cond}
use Rattle.std.specs.List.{prefix_len, AllPass}
use Rattle.std.proofs.lemmas.List.{length-take, get_or-take}
use Rattle.std.proofs.lemmas.List.Sums.{prefix_len_passes}

pub true_or_false : (b : Bool) → (b ≡ true) ⊎ (b ≡ false)
true_or_false true = inl refl
true_or_false false = inr refl

pub all_nil : (p : ℕ → Bool) → AllPass p []
all_nil p k d h = absurd (omega (arith, h))

pub all_cons : (p : ℕ → Bool) (b : ℕ) (bs : List ℕ) → p b ≡ true → AllPass p bs → AllPass p (b ∷ bs)
all_cons p b bs h hs zero d l = h
all_cons p b bs h hs (suc k) d l = hs k d (omega (arith, l))

pub all_head : (p : ℕ → Bool) (b : ℕ) (bs : List ℕ) → AllPass p (b ∷ bs) → p b ≡ true
all_head p b bs h = h 0 b (omega arith)

pub all_tail : (p : ℕ → Bool) (b : ℕ) (bs : List ℕ) → AllPass p (b ∷ bs) → AllPass p bs
all_tail p b bs h k d l = h (suc k) d (omega (arith, l))

pub all_push : (p : ℕ → Bool) (xs : List ℕ) (c : ℕ) → AllPass p xs → p c ≡ true → AllPass p (xs ++ c ∷ [])
all_push p [] c h e = all_cons p c [] e (all_nil p)
all_push p (x ∷ xs) c h e = all_cons p x (xs ++ c ∷ []) (all_head p x xs h) (all_push p xs c (all_tail p x xs h) e)

-- the front that `prefix_len` counts
pub passing : (p : ℕ → Bool) (bytes : List ℕ) (n : ℕ) → n ≡ prefix_len p bytes → AllPass p (take n bytes)
passing p bytes n e k d h =
    let below : k < n = omega (arith, length-take n bytes, h) in
    ap p (get_or-take n bytes k d below) ∙ prefix_len_passes p bytes k d (omega (arith, e))

-- it is no shorter than a front that passes,
pub reaches : (p : ℕ → Bool) (own rest : List ℕ) → AllPass p own → length own ≤ prefix_len p (own ++ rest)
reaches p [] rest h = omega arith
reaches p (b ∷ bs) rest h = omega (arith, ap (λ t. cond t (1 + prefix_len p (bs ++ rest)) 0) (all_head p b bs h), reaches p bs rest (all_tail p b bs h))

-- and where it is longer, the next byte passes too
pub next : (p : ℕ → Bool) (own rest : List ℕ) → AllPass p own
    → (prefix_len p (own ++ rest) ≡ length own) ⊎ ((c : ℕ) × (less : List ℕ) × (rest ≡ c ∷ less) × (p c ≡ true))
next p [] [] h = inl refl
next p [] (c ∷ less) h = elim (true_or_false (p c)) [
  | inl e ↦ inr (c, less, refl, e)
  | inr e ↦ inl (ap (λ t. cond t (1 + prefix_len p less) 0) e)
]
next p (b ∷ bs) rest h = elim (next p bs rest (all_tail p b bs h)) [
  | inl e ↦ inl (omega (arith, ap (λ t. cond t (1 + prefix_len p (bs ++ rest)) 0) (all_head p b bs h), e))
  | inr e ↦ inr e
]

-- some of the bytes, the first among them
pub take_first : (n b : ℕ) (bs : List ℕ) → 1 ≤ n → take n (b ∷ bs) ≡ b ∷ take (n - 1) bs
take_first zero b bs h = absurd (omega arith)
take_first (suc n) b bs h = ap (λ m. b ∷ take m bs) (omega arith)
