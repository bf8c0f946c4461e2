-- The labels of a plugged string are in order.
use Rattle.std.proofs.Common.{◌≡◌, ℕ, ◌==◌, Bool, true, false, if◌then◌else◌, List, [], ◌∷◌, refl, sym, ap, ◌∙◌, arith}
use Rattle.std.proofs.lemmas.Bool.Decides.{nat_tests}
use Rattle.std.specs.declared.cmp.Ordering.TheVariants.{Less, Equal}
use Rattle.std.specs.Ordering.{nat_cmp, ordering_then}
use Rattle.std.specs.List.{AllByRecursion}
use Rattle.std.proofs.lemmas.Cmp.{nat_cmp_total, tied_itself}
use Rattle.bw_solve.specs.Sets.{IsSet}
use Rattle.bw_strings.specs.declared.strings.StrSet.{StrSet}
use Rattle.bw_sum.specs.Labels.{pair_cmp, IsHeld, AreLabels, labels_at}

less_second : (t u : ℕ × ℕ) (g : ℕ) → t.0 ≡ g → u.0 ≡ g → pair_cmp t u ≡ Less → pair_cmp (t.1, g) (u.1, g) ≡ Less
less_second t u g p q h =
    let e : nat_cmp t.0 u.0 ≡ Equal = ap (λ a. nat_cmp a u.0) p ∙ ap (nat_cmp g) q ∙ tied_itself nat_cmp_total g in
    let l : nat_cmp t.1 u.1 ≡ Less = ap (λ r. ordering_then r (nat_cmp t.1 u.1)) (sym e) ∙ h in
    ap (λ r. ordering_then r (nat_cmp g g)) l

same : (a g : ℕ) → (a == g) ≡ true → a ≡ g
same a g h = grind (arith, nat_tests)

above : (t : ℕ × ℕ) (ts : List (ℕ × ℕ)) (g : ℕ) (s : StrSet) → t.0 ≡ g → AllByRecursion (λ u. pair_cmp t u ≡ Less) ts
    → AllByRecursion (λ (f : (ℕ × ℕ) × StrSet). pair_cmp (t.1, g) f.0 ≡ Less) (labels_at ts g s)
above t [] g s e h = tt
above t (u ∷ us) g s e h = go (above t us g s e h.1) (u.0 == g) refl
  where
    go : AllByRecursion (λ (f : (ℕ × ℕ) × StrSet). pair_cmp (t.1, g) f.0 ≡ Less) (labels_at us g s)
        → (b : Bool) → (u.0 == g) ≡ b → AllByRecursion (λ (f : (ℕ × ℕ) × StrSet). pair_cmp (t.1, g) f.0 ≡ Less)
        (if b then ((u.1, g), s) ∷ labels_at us g s else labels_at us g s)
    go r true k = (less_second t u g e (same u.0 g k) h.0, r)
    go r false k = r

pub labels_at_are : (ts : List (ℕ × ℕ)) (g : ℕ) (s : StrSet) → IsSet pair_cmp ts → IsHeld s → AreLabels (labels_at ts g s)
labels_at_are [] g s h k = tt
labels_at_are (t ∷ ts) g s h k = go (labels_at_are ts g s h.1 k) (t.0 == g) refl
  where
    go : AreLabels (labels_at ts g s) → (b : Bool) → (t.0 == g) ≡ b → AreLabels (if b then ((t.1, g), s) ∷ labels_at ts g s else labels_at ts g s)
    go r true e = (above t ts g s (same t.0 g e) h.0, (k, r))
    go r false e = r
