-- What a binary search finds in a set.
use Rattle.std.proofs.Common.{◌≡◌, ℕ, zero, suc, ◌<◌, Bool, true, false, ◌||◌, List, [], ◌∷◌, length, get_or, Result, Ok, Err, refl, sym, ap, ◌∙◌}
use Rattle.std.proofs.Common.{inl, inr, arith, add-one}
use Rattle.std.specs.declared.cmp.Ordering.{Ordering}
use Rattle.std.specs.declared.cmp.Ordering.TheVariants.{Less, Equal, Greater}
use Rattle.std.specs.Cmp.{IsTotalOrder}
use Rattle.std.specs.Ordering.{is_eq, is_lt, ordering_reverse}
use Rattle.std.specs.Result.{is_ok}
use Rattle.std.specs.List.Sorted.{IsBinarySearchResult, IsSearchInRange, IsSortedBy}
use Rattle.std.proofs.lemmas.List.Sorted.{searchable_from_sorted}
use Rattle.std.proofs.lemmas.Bool.{cases_lt}
use Rattle.bw_solve.specs.Sets.{IsSet, has}

or_true : (a b : Bool) → b ≡ true → (a || b) ≡ true
or_true true b h = refl
or_true false b h = h

not_eq : (o : Ordering) → (o ≡ Less → ⊥) → (o ≡ Greater → ⊥) → is_eq o ≡ true
not_eq Less l g = absurd (l refl)
not_eq Equal l g = refl
not_eq Greater l g = absurd (g refl)

module _ {T : Type 0} (cmp : T → T → Ordering) where
  has_at : (xs : List T) (x : T) (i : ℕ) → i < length xs → ((d : T) → cmp (get_or xs i d) x ≡ Equal) → has cmp xs x ≡ true
  has_at [] x i h e = absurd (omega arith)
  has_at (y ∷ ys) x zero h e = ap (λ r. is_eq r || has cmp ys x) (e x)
  has_at (y ∷ ys) x (suc i) h e = or_true (is_eq (cmp y x)) (has cmp ys x) (has_at ys x i (omega arith) e)

  lacks_by : (xs : List T) (x : T) → ((k : ℕ) (d : T) → k < length xs → is_eq (cmp (get_or xs k d) x) ≡ false) → has cmp xs x ≡ false
  lacks_by [] x h = refl
  lacks_by (y ∷ ys) x h = ap (λ b. b || has cmp ys x) (h 0 x (omega arith)) ∙ lacks_by ys x (λ k d l. h (suc k) d (omega arith))

  set_steps : (xs : List T) → IsSet cmp xs → (k : ℕ) (d : T) → suc k < length xs → cmp (get_or xs k d) (get_or xs (suc k) d) ≡ Less
  set_steps [] s k d h = absurd (omega arith)
  set_steps (x ∷ []) s k d h = absurd (omega arith)
  set_steps (x ∷ y ∷ ys) s zero d h = s.0.0
  set_steps (x ∷ y ∷ ys) s (suc k) d h = set_steps (y ∷ ys) s.1 k d (omega arith)

  set_sorted : IsTotalOrder cmp → (xs : List T) → IsSet cmp xs → IsSortedBy (λ a b. is_lt (cmp a b)) xs
  set_sorted o xs s k d l h = rw add-one
      (ap is_lt (o.antisymm (get_or xs (suc k) d) (get_or xs k d) ∙ ap ordering_reverse
      (set_steps xs s k d (let n : suc k < length xs = omega arith in n))))

  pub found : IsTotalOrder cmp → (xs : List T) (x : T) → IsSet cmp xs → (r : Result ℕ ℕ) → IsSearchInRange r (length xs)
      → IsBinarySearchResult (λ y. cmp y x) xs r → is_ok r ≡ has cmp xs x
  found o xs x s (Ok i) h p = sym (has_at xs x i h p)
  found o xs x s (Err i) h p =
      let parts = p (searchable_from_sorted o (λ y. y) xs x (set_sorted o xs s)) in
      sym (lacks_by xs x (λ k d l. elim (cases_lt k i) [
        | inl before ↦ ap is_eq (parts.0 k d (omega arith) before)
        | inr after ↦ ap is_eq (parts.1 k d after l)
      ]))
