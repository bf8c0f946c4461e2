-- The faults of some pieces.
use Rattle.std.proofs.Common.{◌≡◌, ℕ, zero, suc, ◌+◌, ◌<◌, ◌≤◌, List, [], ◌∷◌, ◌++◌, length, take, get_or, refl, sym, ap, ◌∙◌, subst, inl, inr, arith}
use Rattle.std.proofs.lemmas.List.{take_all, take_more}
use Rattle.std.proofs.lemmas.List.Elements.{Contains-append_left, Contains-append_right, Contains-append_cases}
use Rattle.std.specs.List.{Contains}
use Rattle.bw_faults.specs.declared.fault.Fault.{Fault}
use Rattle.bw_faults.specs.Lists.{Lists}
use Rattle.bw_faults.specs.Order.{fault_cmp}
use Rattle.bw_solve.specs.Sets.{merge}
use Rattle.bw_check.proofs.Joining.{both_listed, same_listed, none_listed}

-- a fault of one of these
abbrev pub OfOne : (ℕ → Fault → Type 0) → List ℕ → Fault → Type 0
OfOne P ps f = (p : ℕ) × Contains ps p × P p f

-- of pieces and of others behind them
pub of_both : (P : ℕ → Fault → Type 0) (ps qs all : List ℕ) (a b l : List Fault) → all ≡ ps ++ qs → l ≡ merge fault_cmp a b
    → Lists (OfOne P ps) a → Lists (OfOne P qs) b → Lists (OfOne P all) l
of_both P ps qs all a b l e m g h = subst (λ xs. Lists (OfOne P xs) l) (sym e)
    (same_listed l
    (λ f k. elim k [
      | inl r ↦ (r.0, Contains-append_left ps qs r.0 r.1, r.2)
      | inr r ↦ (r.0, Contains-append_right ps qs r.0 r.1, r.2)
    ])
    (λ f r. elim (Contains-append_cases ps qs r.0 r.1) [ inl c ↦ inl (r.0, c, r.2) | inr c ↦ inr (r.0, c, r.2) ])
    (both_listed a b l m g h))

the_one : (p q : ℕ) → Contains (p ∷ []) q → p ≡ q
the_one p q (zero, l, e) = e
the_one p q (suc k, l, e) = absurd (omega (arith, l))

-- of one piece
pub of_one : (P : ℕ → Fault → Type 0) (p : ℕ) (l : List Fault) → Lists (P p) l → Lists (OfOne P (p ∷ [])) l
of_one P p l h =
    same_listed l (λ f k. (p, (0, omega arith, refl), k)) (λ f r. subst (λ q. P q f) (sym (the_one p r.0 r.1)) r.2) h

-- of one piece more
pub of_more : (P : ℕ → Fault → Type 0) (ps : List ℕ) (i : ℕ) (p : ℕ) (a b l : List Fault) → p ≡ get_or ps i p → i < length ps
    → l ≡ merge fault_cmp a b → Lists (OfOne P (take i ps)) a → Lists (P p) b → Lists (OfOne P (take (i + 1) ps)) l
of_more P ps i p a b l e lt m g h =
    of_both P (take i ps) (p ∷ []) (take (i + 1) ps) a b l (take_more ps i p lt ∙ ap (λ q. take i ps ++ q ∷ []) (sym e)) m g (of_one P p b h)

-- of no piece
pub of_none : (P : ℕ → Fault → Type 0) (l : List Fault) → l ≡ [] → Lists (OfOne P []) l
of_none P l e = subst (Lists (OfOne P [])) (sym e) (none_listed (λ f r. let few = r.1.1 in absurd (omega (arith, few))))

-- of all pieces
pub of_all : (P : ℕ → Fault → Type 0) (ps : List ℕ) (i : ℕ) (l : List Fault) → length ps ≤ i → Lists (OfOne P (take i ps)) l → Lists (OfOne P ps) l
of_all P ps i l h g = subst (λ qs. Lists (OfOne P qs) l) (take_all i ps h) g
