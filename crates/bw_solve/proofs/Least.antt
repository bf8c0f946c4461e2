-- What the solver keeps of the values that it has so far, and why it ends at the least solution.
use Rattle.std.proofs.Common.{◌≡◌, ℕ, zero, suc, ◌<◌, ◌≢◌, Bool, true, List, sym, subst, inl, inr}
use Rattle.std.specs.List.{Contains}
use Rattle.std.proofs.lemmas.Bool.{cases_eq}
use Rattle.bw_solve.specs.Lattice.{IsLattice}
use Rattle.bw_solve.specs.System.{rounds, EachFits, IsLeast, IsSystem}

pub record Partial {V : Type 0} (below : V → V → Bool) (cells : ℕ) (fits : ℕ → V → Type 0) (empty : ℕ → V) (transfer : ℕ → (ℕ → V) → V)
    (f : ℕ → V) : Type 0 where
  pub fitting : EachFits cells fits f
  pub rising : (cell : ℕ) → cell < cells → below (f cell) (transfer cell f) ≡ true
  pub reached : (n : ℕ) × ((cell : ℕ) → cell < cells → below (f cell) (rounds empty transfer n cell) ≡ true)

module _ {V : Type 0} {alike : V → V → Type 0} {below : V → V → Bool} {join : V → V → V} {size rank : V → ℕ}
    (L : IsLattice alike below join size rank)
    {cells : ℕ} {fits : ℕ → V → Type 0} {bound : ℕ → ℕ} {empty : ℕ → V} {readers : ℕ → List ℕ} {transfer : ℕ → (ℕ → V) → V}
    (S : IsSystem alike below rank cells fits bound empty readers transfer) where
  pub self_below : (cell : ℕ) (a : V) → cell < cells → fits cell a → below a a ≡ true
  self_below cell a h fa = L.below_refl a (S.fits_alike cell a a h fa fa)

  pub chain_below : (cell : ℕ) (a b c : V) → cell < cells → fits cell a → fits cell b → fits cell c → below a b ≡ true → below b c ≡ true → below a c ≡ true
  chain_below cell a b c h fa fb fc p q = L.below_trans a b c (S.fits_alike cell a b h fa fb) (S.fits_alike cell b c h fb fc) p q

  pub rounds_fit : (n : ℕ) → EachFits cells fits (rounds empty transfer n)
  rounds_fit zero cell h = S.empty_fits cell h
  rounds_fit (suc n) cell h = S.transfer_fits cell (rounds empty transfer n) h (rounds_fit n)

  pub rounds_rise : (n cell : ℕ) → cell < cells → below (rounds empty transfer n cell) (rounds empty transfer (suc n) cell) ≡ true
  rounds_rise zero cell h = S.empty_least cell (rounds empty transfer 1 cell) h (rounds_fit 1 cell h)
  rounds_rise (suc n) cell h =
      S.monotone cell (rounds empty transfer n) (rounds empty transfer (suc n)) h (rounds_fit n) (rounds_fit (suc n)) (λ d hd _. rounds_rise n d hd)

  -- the values at the start
  pub partial_none : (f : ℕ → V) → ((cell : ℕ) → cell < cells → f cell ≡ empty cell) → Partial below cells fits empty transfer f
  partial_none f same =
      let ff : EachFits cells fits f = λ cell h. subst (fits cell) (sym (same cell h)) (S.empty_fits cell h) in
      record {
        fitting = ff;
        rising = λ cell h. subst (λ v. below v (transfer cell f) ≡ true) (sym (same cell h))
            (S.empty_least cell (transfer cell f) h (S.transfer_fits cell f h ff));
        reached = (0, λ cell h. subst (λ v. below v (empty cell) ≡ true) (sym (same cell h)) (self_below cell (empty cell) h (S.empty_fits cell h)));
      }

  module _ (f g : ℕ → V) (at : ℕ) (in_range : at < cells) (p : Partial below cells fits empty transfer f)
      (others : (d : ℕ) → d ≢ at → g d ≡ f d) (here : g at ≡ transfer at f) where
    pub step_fits : EachFits cells fits g
    step_fits d h = elim (cases_eq d at) [
      | inl same ↦ subst (λ k. fits k (g k)) (sym same) (subst (fits at) (sym here) (S.transfer_fits at f in_range p.fitting))
      | inr other ↦ subst (fits d) (sym (others d other)) (p.fitting d h)
    ]

    pub step_grows : (d : ℕ) → d < cells → below (f d) (g d) ≡ true
    step_grows d h = elim (cases_eq d at) [
      | inl same ↦ subst (λ k. below (f k) (g k) ≡ true) (sym same) (subst (λ v. below (f at) v ≡ true) (sym here) (p.rising at in_range))
      | inr other ↦ subst (λ v. below (f d) v ≡ true) (sym (others d other)) (self_below d (f d) h (p.fitting d h))
    ]

    step_transfer : (d : ℕ) → d < cells → below (transfer d f) (transfer d g) ≡ true
    step_transfer d h = S.monotone d f g h p.fitting step_fits (λ e he _. step_grows e he)

    step_rising : (d : ℕ) → d < cells → below (g d) (transfer d g) ≡ true
    step_rising d h = elim (cases_eq d at) [
      | inl same ↦ subst (λ k. below (g k) (transfer k g) ≡ true) (sym same)
          (subst (λ v. below v (transfer at g) ≡ true) (sym here) (step_transfer at in_range))
      | inr other ↦ subst (λ v. below v (transfer d g) ≡ true) (sym (others d other))
          (chain_below d (f d) (transfer d f) (transfer d g) h (p.fitting d h) (S.transfer_fits d f h p.fitting) (S.transfer_fits d g h step_fits)
          (p.rising d h) (step_transfer d h))
    ]

    step_reached : (d : ℕ) → d < cells → below (g d) (rounds empty transfer (suc p.reached.0) d) ≡ true
    step_reached d h =
        let n : ℕ = p.reached.0 in
        elim (cases_eq d at) [
          | inl same ↦ subst (λ k. below (g k) (rounds empty transfer (suc n) k) ≡ true) (sym same)
              (subst (λ v. below v (rounds empty transfer (suc n) at) ≡ true) (sym here)
              (S.monotone at f (rounds empty transfer n) in_range p.fitting (rounds_fit n) (λ e he _. p.reached.1 e he)))
          | inr other ↦ subst (λ v. below v (rounds empty transfer (suc n) d) ≡ true) (sym (others d other))
              (chain_below d (f d) (rounds empty transfer n d) (rounds empty transfer (suc n) d) h (p.fitting d h) (rounds_fit n d h)
              (rounds_fit (suc n) d h) (p.reached.1 d h) (rounds_rise n d h))
        ]

    -- one cell gets its new value
    pub partial_more : Partial below cells fits empty transfer g
    partial_more = record { fitting = step_fits; rising = step_rising; reached = (suc p.reached.0, step_reached) }

    -- a cell that doesn't look at the changed one stays as its transfer has it
    pub closed_more : (d : ℕ) → d < cells → ¬ (Contains (readers at) d) → below (transfer d f) (f d) ≡ true → below (transfer d g) (g d) ≡ true
    closed_more d h apart closed =
        chain_below d (transfer d g) (f d) (g d) h (S.transfer_fits d g h step_fits) (p.fitting d h) (step_fits d h)
        (chain_below d (transfer d g) (transfer d f) (f d) h (S.transfer_fits d g h step_fits) (S.transfer_fits d f h p.fitting) (p.fitting d h)
        (S.monotone d g f h step_fits p.fitting (λ e he looks. elim (cases_eq e at) [
          | inl same ↦ absurd (apart (subst (λ k. Contains (readers k) d) same looks))
          | inr other ↦ subst (λ v. below v (f e) ≡ true) (sym (others e other)) (self_below e (f e) he (p.fitting e he))
        ]))
        closed)
        (step_grows d h)

    -- the changed cell itself, where it doesn't look at itself
    pub closed_here : ¬ (Contains (readers at) at) → below (transfer at g) (g at) ≡ true
    closed_here apart = subst (λ v. below (transfer at g) v ≡ true) (sym here)
        (S.monotone at g f in_range step_fits p.fitting (λ e he looks. elim (cases_eq e at) [
          | inl same ↦ absurd (apart (subst (λ k. Contains (readers k) at) same looks))
          | inr other ↦ subst (λ v. below v (f e) ≡ true) (sym (others e other)) (self_below e (f e) he (p.fitting e he))
        ]))

  module _ (f : ℕ → V) (p : Partial below cells fits empty transfer f) where
    rounds_below : ((d : ℕ) → d < cells → below (transfer d f) (f d) ≡ true) → (n cell : ℕ) → cell < cells
        → below (rounds empty transfer n cell) (f cell) ≡ true
    rounds_below closed zero cell h = S.empty_least cell (f cell) h (p.fitting cell h)
    rounds_below closed (suc n) cell h =
        chain_below cell (transfer cell (rounds empty transfer n)) (transfer cell f) (f cell) h (rounds_fit (suc n) cell h)
        (S.transfer_fits cell f h p.fitting) (p.fitting cell h)
        (S.monotone cell (rounds empty transfer n) f h (rounds_fit n) p.fitting (λ e he _. rounds_below closed n e he))
        (closed cell h)

    -- where each cell is as its transfer has it, the values are the least solution
    pub least_all : ((d : ℕ) → d < cells → below (transfer d f) (f d) ≡ true) → IsLeast below cells empty transfer f
    least_all closed = record { above = rounds_below closed; reached = p.reached }

-- What follows of a least solution.
module _ {V : Type 0} {alike : V → V → Type 0} {below : V → V → Bool} {join : V → V → V} {size rank : V → ℕ}
    (L : IsLattice alike below join size rank)
    {cells : ℕ} {fits : ℕ → V → Type 0} {bound : ℕ → ℕ} {empty : ℕ → V} {readers : ℕ → List ℕ} {transfer : ℕ → (ℕ → V) → V}
    (S : IsSystem alike below rank cells fits bound empty readers transfer)
    (f : ℕ → V) (ff : EachFits cells fits f) (least : IsLeast below cells empty transfer f) where
  rounds_lower : (g : ℕ → V) → EachFits cells fits g → ((d : ℕ) → d < cells → below (transfer d g) (g d) ≡ true) → (n cell : ℕ) → cell < cells
      → below (rounds empty transfer n cell) (g cell) ≡ true
  rounds_lower g fg closed zero cell h = S.empty_least cell (g cell) h (fg cell h)
  rounds_lower g fg closed (suc n) cell h =
      chain_below L S cell (transfer cell (rounds empty transfer n)) (transfer cell g) (g cell) h (rounds_fit L S (suc n) cell h)
      (S.transfer_fits cell g h fg) (fg cell h)
      (S.monotone cell (rounds empty transfer n) g h (rounds_fit L S n) fg (λ e he _. rounds_lower g fg closed n e he))
      (closed cell h)

  -- no family of values that is as the transfers have it, or above, lies lower
  pub least_lowest : (g : ℕ → V) → EachFits cells fits g → ((d : ℕ) → d < cells → below (transfer d g) (g d) ≡ true) → (cell : ℕ) → cell < cells
      → below (f cell) (g cell) ≡ true
  least_lowest g fg closed cell h =
      let n = least.reached.0 in
      chain_below L S cell (f cell) (rounds empty transfer n cell) (g cell) h (ff cell h) (rounds_fit L S n cell h) (fg cell h)
      (least.reached.1 cell h) (rounds_lower g fg closed n cell h)

  -- each cell is no lower than its transfer
  pub least_closed : (cell : ℕ) → cell < cells → below (transfer cell f) (f cell) ≡ true
  least_closed cell h =
      let n = least.reached.0 in
      chain_below L S cell (transfer cell f) (rounds empty transfer (suc n) cell) (f cell) h (S.transfer_fits cell f h ff)
      (rounds_fit L S (suc n) cell h) (ff cell h)
      (S.monotone cell f (rounds empty transfer n) h ff (rounds_fit L S n) (λ e he _. least.reached.1 e he))
      (least.above (suc n) cell h)

  -- nor higher
  pub least_risen : (cell : ℕ) → cell < cells → below (f cell) (transfer cell f) ≡ true
  least_risen cell h =
      let n = least.reached.0 in
      chain_below L S cell (f cell) (rounds empty transfer (suc n) cell) (transfer cell f) h (ff cell h) (rounds_fit L S (suc n) cell h)
      (S.transfer_fits cell f h ff)
      (chain_below L S cell (f cell) (rounds empty transfer n cell) (rounds empty transfer (suc n) cell) h (ff cell h) (rounds_fit L S n cell h)
      (rounds_fit L S (suc n) cell h) (least.reached.1 cell h) (rounds_rise L S n cell h))
      (S.monotone cell (rounds empty transfer n) f h (rounds_fit L S n) ff (λ e he _. least.above n e he))
