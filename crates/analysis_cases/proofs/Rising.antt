-- A round from values on the way to the least solution gives such values again.
use Rattle.std.proofs.Common.{◌≡◌, ℕ, suc, ◌+◌, ◌<◌, Bool, true, List, length, get_or, sym, subst, inl, inr, arith}
use Rattle.std.proofs.lemmas.Bool.{cases_eq}
use Rattle.std.proofs.lemmas.List.{get_or_read}
use Rattle.bw_solve.specs.Lattice.{IsLattice}
use Rattle.bw_solve.specs.System.{family, rounds, EachFits, IsSystem}
use Rattle.bw_solve.proofs.Least.{Partial, rounds_fit}

module _ {V : Type 0} {alike : V → V → Type 0} {below : V → V → Bool} {join : V → V → V} {size rank : V → ℕ}
    (L : IsLattice alike below join size rank)
    {cells : ℕ} {fits : ℕ → V → Type 0} {bound : ℕ → ℕ} {empty : ℕ → V} {readers : ℕ → List ℕ} {transfer : ℕ → (ℕ → V) → V}
    (S : IsSystem alike below rank cells fits bound empty readers transfer)
    (f g : ℕ → V) (p : Partial below cells fits empty transfer f) (next : (cell : ℕ) → cell < cells → g cell ≡ transfer cell f) where
  pub next_fits : EachFits cells fits g
  next_fits cell h = subst (fits cell) (sym (next cell h)) (S.transfer_fits cell f h p.fitting)

  grows : (cell : ℕ) → cell < cells → below (f cell) (g cell) ≡ true
  grows cell h = subst (λ v. below (f cell) v ≡ true) (sym (next cell h)) (p.rising cell h)

  rising : (cell : ℕ) → cell < cells → below (g cell) (transfer cell g) ≡ true
  rising cell h = subst (λ v. below v (transfer cell g) ≡ true) (sym (next cell h)) (S.monotone cell f g h p.fitting next_fits (λ d k _. grows d k))

  reached : (cell : ℕ) → cell < cells → below (g cell) (rounds empty transfer (suc p.reached.0) cell) ≡ true
  reached cell h = subst (λ v. below v (rounds empty transfer (suc p.reached.0) cell) ≡ true) (sym (next cell h))
      (S.monotone cell f (rounds empty transfer p.reached.0) h p.fitting (rounds_fit L S p.reached.0) (λ d k _. p.reached.1 d k))

  pub partial_round : Partial below cells fits empty transfer g
  partial_round = record { fitting = next_fits; rising = rising; reached = (suc p.reached.0, reached) }

-- what two elements say of the values at a place
pub below_at : {V : Type 0} (below : V → V → Bool) (empty : ℕ → V) (a b : List V) (i : ℕ) (x y : V) → i < length a → i < length b
    → x ≡ get_or a i x → y ≡ get_or b i y → below x y ≡ true → below (family empty a i) (family empty b i) ≡ true
below_at below empty a b i x y h k p q t =
    subst (λ v. below v (family empty b i) ≡ true) (get_or_read a i x h p (empty i)) (subst (λ v. below x v ≡ true) (get_or_read b i y k q (empty i)) t)

pub one_more : (P : ℕ → Type 0) (n : ℕ) → ((k : ℕ) → k < n → P k) → P n → (k : ℕ) → k < n + 1 → P k
one_more P n f p k h = elim (cases_eq k n) [ inl same ↦ subst P (sym same) p | inr other ↦ f k (omega arith) ]
