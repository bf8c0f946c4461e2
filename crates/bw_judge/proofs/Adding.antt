-- Adding the faults of what may stand in an element.
use Rattle.std.proofs.Common.{◌≡◌, inl, inr, ℕ, ◌+◌, ◌<◌, Bool, ◌&&◌, not, List, length, sym, ap, ◌∙◌, subst, arith}
use Rattle.std.specs.Prelude.{codes}
use Rattle.bw_faults.specs.declared.fault.Fault.{Fault}
use Rattle.bw_faults.specs.Lists.{Adds, When}
use Rattle.bw_faults.proofs.Adding.{adds_none, adds_then}
use Rattle.bw_shape.proofs.Rows.Waking.{last}
use Rattle.bw_judge.specs.declared.content.Spot.{Spot}
use Rattle.bw_judge.specs.Content.{fault_at, is_bad_tag, tag_fault, OfContent}

-- no tag yet
pub adds_text : (s : Spot) (has : List (List ℕ)) (text : Bool) (tags : List (List ℕ)) (given : ℕ → Bool) (old new : List Fault)
    → Adds (When (given 0 && not text) (fault_at s 5 (codes "text"))) old new → Adds (OfContent s has text tags given 0) old new
adds_text s has text tags given old new p =
    adds_then (OfContent s has text tags given 0) p (adds_none (λ _. ⊥) new (λ x h. h))
    (λ x h. elim h [ inl k ↦ inl k | inr k ↦ absurd k ]) (λ x h. elim h [ inl k ↦ inl k | inr k ↦ absurd (omega (arith, k.1)) ])

-- one tag more
pub adds_tag : (s : Spot) (has : List (List ℕ)) (text : Bool) (tags : List (List ℕ)) (given : ℕ → Bool) (k : ℕ) (a b c : List Fault)
    → Adds (OfContent s has text tags given k) a b → Adds (When (given (k + 1) && is_bad_tag has tags k) (tag_fault s tags k)) b c
    → Adds (OfContent s has text tags given (k + 1)) a c
adds_tag s has text tags given k a b c p q =
    adds_then (OfContent s has text tags given (k + 1)) p q
    (λ x h. elim h [ inl old ↦ elim old [ inl t ↦ inl t | inr t ↦ inr (t.0, omega (arith, t.1), t.2) ] | inr new ↦ inr (k, omega arith, new) ])
    (λ x h. elim h [
      | inl t ↦ inl (inl t)
      | inr t ↦ elim (last k t.0 t.1) [
        | inl low ↦ inl (inr (t.0, low, t.2))
        | inr same ↦ inr (subst (λ j. When (given (j + 1) && is_bad_tag has tags j) (tag_fault s tags j) x) same t.2)
      ]
    ])

-- with the same columns
pub adds_same : (s : Spot) (has : List (List ℕ)) (text : Bool) (tags : List (List ℕ)) (given other : ℕ → Bool) (a b : List Fault)
    → ((c : ℕ) → c < length tags + 1 → given c ≡ other c)
    → Adds (OfContent s has text tags given (length tags)) a b → Adds (OfContent s has text tags other (length tags)) a b
adds_same s has text tags given other a b e p =
    adds_then (OfContent s has text tags other (length tags)) p (adds_none (λ _. ⊥) b (λ x h. h))
    (λ x h. elim h [
      | inl k ↦ elim k [
        | inl t ↦ inl (sym (ap (λ o. o && not text) (e 0 (omega arith))) ∙ t.0, t.1)
        | inr t ↦ inr (t.0, t.1, (sym (ap (λ o. o && is_bad_tag has tags t.0) (e (t.0 + 1) (omega (arith, t.1)))) ∙ t.2.0, t.2.1))
      ]
      | inr k ↦ absurd k
    ])
    (λ x h. inl (elim h [
      | inl t ↦ inl (ap (λ o. o && not text) (e 0 (omega arith)) ∙ t.0, t.1)
      | inr t ↦ inr (t.0, t.1, (ap (λ o. o && is_bad_tag has tags t.0) (e (t.0 + 1) (omega (arith, t.1))) ∙ t.2.0, t.2.1))
    ]))
