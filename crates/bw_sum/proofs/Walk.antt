-- Walking along the labels of two summaries.
use Rattle.std.proofs.Common.{◌≡◌, ℕ, zero, suc, ◌+◌, ◌-◌, ◌<◌, ◌≤◌, true, false, ◌&&◌, ◌==◌, List, [], ◌∷◌, ◌++◌, length, get_or, take, drop, refl, sym}
use Rattle.std.proofs.Common.{ap, ◌∙◌, subst, inl, inr, ◌⊎◌, arith, length-drop, append_assoc}
use Rattle.std.specs.declared.cmp.Ordering.TheVariants.{Less, Equal, Greater}
use Rattle.std.proofs.lemmas.List.{append-nil, take_rest, at_drop_all}
use Rattle.std.proofs.lemmas.Bool.Decides.{nat_tests}
use Rattle.bw_solve.proofs.Walk.{left_at}
use Rattle.bw_solve.specs.Lawful.TableLaws.{table_less, table_same, table_more}
use Rattle.bw_strings.specs.declared.strings.StrSet.{StrSet}
use Rattle.bw_strings.specs.declared.strings.StrSet.TheVariants.{Of}
use Rattle.bw_strings.specs.Strings.{IsWellFormed, is_below}
use Rattle.bw_strings.specs.Lawful.StringLaws.{strings_lattice, none_least, none_left, none_right}
use Rattle.bw_sum.specs.Labels.{pair_cmp, AreLabels, are_below, both_labels}
use Rattle.bw_sum.specs.Lawful.LabelLaws.{pair_cmp_total}

abbrev Label : Type 0
Label = (ℕ × ℕ) × StrSet

pub labels_drop : (xs : List Label) (i : ℕ) → AreLabels xs → AreLabels (drop i xs)
labels_drop xs zero s = s
labels_drop [] (suc i) s = tt
labels_drop (x ∷ xs) (suc i) s = labels_drop xs i s.1.1

pub fine_at : (xs : List Label) (i : ℕ) (d : Label) → i < length xs → AreLabels xs → IsWellFormed (get_or xs i d).1
fine_at [] i d h s = absurd (omega arith)
fine_at (x ∷ xs) zero d h s = s.1.0.0
fine_at (x ∷ xs) (suc i) d h s = fine_at xs i d (omega arith) s.1.1

none_left_over : (xs : List Label) → 0 < length xs → AreLabels xs → are_below xs [] ≡ false
none_left_over [] h s = absurd (omega arith)
none_left_over (x ∷ xs) h s = ap (λ b. b && are_below xs []) s.1.0.1

pub walk_ends : (a b : List Label) (i j : ℕ) → AreLabels a → i ≤ length a → (length a ≤ i) ⊎ ((i < length a) × (length b ≤ j))
    → are_below (drop i a) (drop j b) ≡ are_below a b → (i == length a) ≡ are_below a b
walk_ends a b i j s h (inl k) done =
    let e : (i == length a) ≡ true = grind (arith, nat_tests) in
    e ∙ sym (at_drop_all (λ xs. are_below xs (drop j b)) a i k) ∙ done
walk_ends a b i j s h (inr k) done =
    let l : i < length a = k.0 in
    let e : (i == length a) ≡ false = grind (arith, nat_tests) in
    let n : 0 < length (drop i a) = rw length-drop (omega arith) in
    e ∙ sym (none_left_over (drop i a) n (labels_drop a i s)) ∙ sym (at_drop_all (λ ys. are_below (drop i a) ys) b j k.1) ∙ done

module _ (a b : List Label) (i j : ℕ) (x y : Label) (s : AreLabels a) (t : AreLabels b) (h : i < length a) (k : j < length b) (p : x ≡ get_or a i x)
    (q : y ≡ get_or b j y) where
  sa : AreLabels (x ∷ drop (i + 1) a)
  sa = subst AreLabels (left_at a i x h p) (labels_drop a i s)

  sb : AreLabels (y ∷ drop (j + 1) b)
  sb = subst AreLabels (left_at b j y k q) (labels_drop b j t)

  here : are_below (drop i a) (drop j b) ≡ are_below (x ∷ drop (i + 1) a) (y ∷ drop (j + 1) b)
  here = ap (λ xs. are_below xs (drop j b)) (left_at a i x h p) ∙ ap (are_below (x ∷ drop (i + 1) a)) (left_at b j y k q)

  pub walk_less : pair_cmp x.0 y.0 ≡ Less → false ≡ are_below (drop i a) (drop j b)
  walk_less e = sym (here ∙ table_less pair_cmp_total strings_lattice (Of []) (tt, tt) (λ v h. none_least v) none_left none_right x y (drop (i + 1) a)
      (drop (j + 1) b) sa sb e)

  pub walk_same : pair_cmp x.0 y.0 ≡ Equal → (is_below x.1 y.1 && are_below (drop (i + 1) a) (drop (j + 1) b)) ≡ are_below (drop i a) (drop j b)
  walk_same e = sym (here ∙ table_same pair_cmp_total strings_lattice (Of []) (tt, tt) (λ v h. none_least v) none_left none_right x y (drop (i + 1) a)
      (drop (j + 1) b) sa e)

  pub walk_more : pair_cmp x.0 y.0 ≡ Greater → are_below (drop i a) (drop (j + 1) b) ≡ are_below (drop i a) (drop j b)
  walk_more e = ap (λ xs. are_below xs (drop (j + 1) b)) (left_at a i x h p)
      ∙ sym (here ∙ table_more pair_cmp_total strings_lattice (Of []) (tt, tt) (λ v h. none_least v) none_left none_right x y (drop (i + 1) a)
      (drop (j + 1) b) sa e)

-- where one list is empty, the other follows
ends : (xs ys : List Label) → (length xs ≡ 0) ⊎ (length ys ≡ 0) → both_labels xs ys ≡ xs ++ ys
ends [] ys h = refl
ends (x ∷ xs) [] h = sym (append-nil (x ∷ xs))
ends (x ∷ xs) (y ∷ ys) (inl h) = absurd (omega arith)
ends (x ∷ xs) (y ∷ ys) (inr h) = absurd (omega arith)

pub join_ends : (a b : List Label) (i j : ℕ) (all mid new : List Label) → mid ≡ all ++ take (length a - i) (drop i a)
    → new ≡ mid ++ take (length b - j) (drop j b)
    → (length (drop i a) ≡ 0) ⊎ (length (drop j b) ≡ 0) → all ++ both_labels (drop i a) (drop j b) ≡ both_labels a b → new ≡ both_labels a b
join_ends a b i j all mid new e f k done =
    f ∙ ap (λ l. mid ++ l) (take_rest b j) ∙ ap (λ l. l ++ drop j b) (e ∙ ap (λ l. all ++ l) (take_rest a i)) ∙ append_assoc all (drop i a) (drop j b)
    ∙ ap (λ l. all ++ l) (sym (ends (drop i a) (drop j b) k)) ∙ done

-- what stands at a place, whatever the default
pub same_read : {X : Type 0} (xs : List X) (i : ℕ) (d e : X) → i < length xs → get_or xs i d ≡ get_or xs i e
same_read [] i d e h = absurd (omega arith)
same_read (x ∷ xs) zero d e h = refl
same_read (x ∷ xs) (suc i) d e h = same_read xs i d e (omega arith)
