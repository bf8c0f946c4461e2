-- What looking at a row does.
use Rattle.std.proofs.Common.{◌≡◌, ◌≢◌, ◌⊎◌, inl, inr, ℕ, ◌<◌, Bool, true, false, ◌||◌, List, [], length, set, get_or, refl, ap, sym, ◌∙◌, subst, arith}
use Rattle.std.proofs.lemmas.Bool.{false≢true, or_cases}
use Rattle.std.proofs.lemmas.List.{get_or_past, get_or-set_same, get_or-set_other, length-set}
use Rattle.bw_shape.specs.Rows.Rows.{flag, at}
use Rattle.bw_shape.specs.Rows.Least.{Derivation, Derived, by, IsDerived}
use Rattle.bw_shape.specs.Rows.Rounds.{Step}
use Rattle.bw_shape.proofs.Rows.Rows.{split, ones_grow, missing_falls}

or_right : (a b : Bool) → b ≡ true → (a || b) ≡ true
or_right true b h = refl
or_right false b h = h

or_left : (a b : Bool) → a ≡ true → (a || b) ≡ true
or_left true b h = refl
or_left false b h = absurd (false≢true h)

-- no flag is set past the end of a row
pub in_row : (row : List Bool) (c : ℕ) → flag row c ≡ true → c < length row
in_row row c h = elim (split c (length row)) [
  | inl low ↦ low
  | inr high ↦ absurd (false≢true (sym (get_or_past row c false high) ∙ h))
]

set_length : (table : List (List Bool)) (n : ℕ) (row : List Bool) → length (set table n row) ≡ length table
set_length table n row = length-set {A = List Bool} table n row

-- a derived fact stands in the row
in_width : {width : ℕ} {follows : Derivation} {n c : ℕ} → Derived width follows n c → c < width
in_width (by known k l f) = l

replaced : (table : List (List Bool)) (n m : ℕ) (row : List Bool) → n < length table → (m ≡ n) ⊎ (m ≢ n) → (get_or (set table n row) m [] ≡ row) × (m ≡ n)
    ⊎ (get_or (set table n row) m [] ≡ get_or table m [])
replaced table n m row l (inl e) = inl (ap (λ j. get_or (set table n row) j []) e ∙ get_or-set_same table n row [] l, e)
replaced table n m row l (inr e) = inr (get_or-set_other table n m row [] e)

pub equal_or : (m n : ℕ) → (m ≡ n) ⊎ (m ≢ n)
equal_or m n = grind arith

module _ {width : ℕ} {follows : Derivation} where
  -- nothing new: what follows is there
  pub step_same : (n : ℕ) (table : List (List Bool)) (row : List Bool)
      → ((c : ℕ) → c < width → flag row c ≡ follows (at table) n c) → ((c : ℕ) → flag row c ≡ true → at table n c ≡ true)
      → Step width follows n table table false
  step_same n table row each within = record {
    derived = λ d. d;
    whole = λ c l f. within c (each c l ∙ f);
    others = λ m e c. refl;
    same = λ _. refl;
    long = refl;
    falls = λ d h. absurd (false≢true h);
  }

  -- what is set in the row that follows, joined with the old one, is derived
  new_derived : (n : ℕ) (table : List (List Bool)) (row new : List Bool) → length row ≡ width → length new ≡ length row
      → ((c : ℕ) → c < width → flag row c ≡ follows (at table) n c)
      → ((c : ℕ) → c < length row → flag new c ≡ (flag row c || at table n c))
      → IsDerived width follows table → (c : ℕ) → flag new c ≡ true → Derived width follows n c
  new_derived n table row new w m each join d c h =
      let l : c < length row = let k = in_row new c h in omega (arith, k, m) in
      let v : c < width = omega (arith, l, w) in
      elim (or_cases (flag row c) (at table n c) (sym (join c l) ∙ h)) [
        | inl it ↦ by (at table) d v (sym (each c v) ∙ it)
        | inr it ↦ d n c it
      ]

  -- the row that follows, joined with the old one, in its place
  pub step_new : (n : ℕ) (table : List (List Bool)) (row new : List Bool) → n < length table → length row ≡ width → length new ≡ length row
      → ((c : ℕ) → c < width → flag row c ≡ follows (at table) n c)
      → ((c : ℕ) → c < length row → flag new c ≡ (flag row c || at table n c))
      → (c : ℕ) × (flag row c ≡ true) × (at table n c ≡ false)
      → Step width follows n table (set table n new) true
  step_new n table row new l w m each join more = record {
    derived = λ d k c h. elim (replaced table n k new l (equal_or k n)) [
      | inl r ↦ subst (λ j. Derived width follows j c) (sym r.1) (new_derived n table row new w m each join d c (ap (λ r. flag r c) (sym r.0) ∙ h))
      | inr r ↦ d k c (ap (λ r. flag r c) (sym r) ∙ h)
    ];
    whole = λ c v f. let u : c < length row = omega (arith, v, w) in
        ap (λ r. flag r c) (get_or-set_same table n new [] l) ∙ join c u ∙ or_left (flag row c) (at table n c) (each c v ∙ f);
    others = λ k e c. ap (λ r. flag r c) (get_or-set_other table n k new [] e);
    same = λ h. absurd (false≢true (sym h));
    long = set_length table n new;
    falls = λ d _. missing_falls width table n new l
        (ones_grow (get_or table n []) new
        (λ c h. let v = in_width (d n c h) in let u : c < length row = omega (arith, v, w) in join c u ∙ or_right (flag row c) (at table n c) h)
        more.0 more.2 (let u : more.0 < length row = in_row row more.0 more.1 in join more.0 u ∙ ap (λ b. b || at table n more.0) more.1))
        (omega (arith, m, w));
  }
