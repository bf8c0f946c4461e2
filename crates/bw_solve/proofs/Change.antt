-- One cell of the list of values gets its new value.
use Rattle.std.proofs.Common.{◌≡◌, ℕ, ◌+◌, ◌-◌, ◌<◌, ◌≤◌, ◌≢◌, Bool, true, false, List, length, set, sym, ap, ◌∙◌, subst, arith}
use Rattle.std.proofs.Common.{get_or-set_other, get_or-set_same}
use Rattle.std.specs.List.{Contains}
use Rattle.bw_solve.specs.Lattice.{IsLattice}
use Rattle.bw_solve.specs.System.{family, rounds, EachFits, IsLeast, members, added, IsSystem}
use Rattle.bw_solve.proofs.Sums.{added_le, added_move}
use Rattle.bw_solve.proofs.Least.{Partial, partial_more, closed_more, closed_here, rounds_fit}

module _ {V : Type 0} {alike : V → V → Type 0} {below : V → V → Bool} {join : V → V → V} {size rank : V → ℕ}
    (L : IsLattice alike below join size rank)
    {cells : ℕ} {fits : ℕ → V → Type 0} {bound : ℕ → ℕ} {empty : ℕ → V} {readers : ℕ → List ℕ} {transfer : ℕ → (ℕ → V) → V}
    (S : IsSystem alike below rank cells fits bound empty readers transfer) where
  -- the values so far have no more members than some round
  pub members_reached : (f : ℕ → V) (p : Partial below cells fits empty transfer f) (k : ℕ) → k ≡ p.reached.0
      → members size f cells ≤ members size (rounds empty transfer k) cells
  members_reached f p k e = rw e (added_le (λ d. size (f d)) (λ d. size (rounds empty transfer p.reached.0 d)) cells
      (λ d h. L.size_grows (f d) (rounds empty transfer p.reached.0 d)
      (S.fits_alike d (f d) (rounds empty transfer p.reached.0 d) h (p.fitting d h) (rounds_fit L S p.reached.0 d h)) (p.reached.1 d h)))

  -- no round has more members than the least solution
  pub members_above : (f : ℕ → V) → EachFits cells fits f → IsLeast below cells empty transfer f → (n : ℕ)
      → members size (rounds empty transfer n) cells ≤ members size f cells
  members_above f ff h n = added_le (λ d. size (rounds empty transfer n d)) (λ d. size (f d)) cells
      (λ d l. L.size_grows (rounds empty transfer n d) (f d) (S.fits_alike d (rounds empty transfer n d) (f d) l (rounds_fit L S n d l) (ff d l))
      (h.above n d l))

  pub value_grows : (f : ℕ → V) (at : ℕ) → at < cells → Partial below cells fits empty transfer f → size (f at) ≤ size (transfer at f)
  value_grows f at h p = L.size_grows (f at) (transfer at f) (S.fits_alike at (f at) (transfer at f) h (p.fitting at h)
      (S.transfer_fits at f h p.fitting)) (p.rising at h)

  -- what holds once a cell has the value that its transfer gives
  pub record Put (values : List V) (at : ℕ) (v : V) : Type 0 where
    pub partial : Partial below cells fits empty transfer (family empty (set values at v))
    pub members_are : members size (family empty (set values at v)) cells + size (family empty values at) ≡ members size (family empty values) cells + size v
    pub size_grows : size (family empty values at) ≤ size v
    pub gaps_fall : below v (family empty values at) ≡ false
        → added (λ d. bound d - rank (family empty (set values at v) d)) cells < added (λ d. bound d - rank (family empty values d)) cells
    pub closed : (d : ℕ) → d < cells → ¬ (Contains (readers at) d) → below (transfer d (family empty values)) (family empty values d) ≡ true
        → below (transfer d (family empty (set values at v))) (family empty (set values at v) d) ≡ true
    pub closed_here : ¬ (Contains (readers at) at) → below (transfer at (family empty (set values at v))) (family empty (set values at v) at) ≡ true

  module _ (values : List V) (at : ℕ) (v : V) (in_list : at < length values) (in_range : at < cells)
      (p : Partial below cells fits empty transfer (family empty values)) (is : v ≡ transfer at (family empty values)) where
    others : (d : ℕ) → d ≢ at → family empty (set values at v) d ≡ family empty values d
    others d other = get_or-set_other values at d v (empty d) other

    here : family empty (set values at v) at ≡ v
    here = get_or-set_same values at v (empty at) in_list

    gaps : below v (family empty values at) ≡ false
        → added (λ d. bound d - rank (family empty (set values at v) d)) cells < added (λ d. bound d - rank (family empty values d)) cells
    gaps grew =
        let f : ℕ → V = family empty values in
        let g : ℕ → V = family empty (set values at v) in
        let fv : fits at v = subst (fits at) (sym is) (S.transfer_fits at f in_range p.fitting) in
        let rises : rank (f at) < rank v = L.rank_rises (f at) v (S.fits_alike at (f at) v in_range (p.fitting at in_range) fv)
        (subst (λ w. below (f at) w ≡ true) (sym is) (p.rising at in_range)) grew in
        let bounded : rank v ≤ bound at = S.fits_bound at v in_range fv in
        let e : rank (g at) ≡ rank v = ap rank here in
        let moved = added_move (λ d. bound d - rank (g d)) (λ d. bound d - rank (f d)) cells at in_range
        (λ d other. ap (λ w. bound d - rank w) (others d other)) in
        omega arith

    pub put : Put values at v
    put = record {
      partial = partial_more L S (family empty values) (family empty (set values at v)) at in_range p others (here ∙ is);
      members_are =
          added_move (λ d. size (family empty (set values at v) d)) (λ d. size (family empty values d)) cells at in_range (λ d other. ap size (others d other))
          ∙ ap (λ w. members size (family empty values) cells + size w) here;
      size_grows = subst (λ w. size (family empty values at) ≤ size w) (sym is) (value_grows (family empty values) at in_range p);
      gaps_fall = gaps;
      closed = closed_more L S (family empty values) (family empty (set values at v)) at in_range p others (here ∙ is);
      closed_here = closed_here L S (family empty values) (family empty (set values at v)) at in_range p others (here ∙ is);
    }
