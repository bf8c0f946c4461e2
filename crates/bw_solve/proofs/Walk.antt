-- Walking along two ascending lists, and taking in one more member at the end of one.
use Rattle.std.proofs.Common.{◌≡◌, ℕ, zero, suc, ◌+◌, ◌<◌, ◌≤◌, true, false, ◌||◌, ◌&&◌, ◌==◌, List, [], ◌∷◌, ◌++◌, length, get_or, drop, refl, sym}
use Rattle.std.proofs.Common.{ap, ◌∙◌, subst, inl, inr, ◌⊎◌, arith, length-drop}
use Rattle.std.specs.declared.cmp.Ordering.{Ordering}
use Rattle.std.specs.declared.cmp.Ordering.TheVariants.{Less, Equal, Greater}
use Rattle.std.specs.Cmp.{IsTotalOrder}
use Rattle.std.proofs.lemmas.Cmp.{tied_back}
use Rattle.std.specs.Ordering.{is_eq, match_ordering}
use Rattle.std.specs.List.{AllByRecursion}
use Rattle.std.proofs.lemmas.List.{drop_more, at_drop_all}
use Rattle.std.proofs.lemmas.Bool.Decides.{nat_tests}
use Rattle.bw_solve.specs.Sets.{IsSet, has, is_within, merge}
use Rattle.bw_solve.specs.Lawful.SetLaws.{above_more, above_same, less_back, above_lacks}

-- what is left of a list at a place
pub left_at : {T : Type 0} (xs : List T) (i : ℕ) (x : T) → i < length xs → x ≡ get_or xs i x → drop i xs ≡ x ∷ drop (i + 1) xs
left_at xs i x h e = drop_more xs i x h ∙ ap (λ v. v ∷ drop (i + 1) xs) (sym e)

pub set_drop : {T : Type 0} (cmp : T → T → Ordering) (xs : List T) (i : ℕ) → IsSet cmp xs → IsSet cmp (drop i xs)
set_drop cmp xs zero s = s
set_drop cmp [] (suc i) s = tt
set_drop cmp (x ∷ xs) (suc i) s = set_drop cmp xs i s.1

none_left : {T : Type 0} (cmp : T → T → Ordering) (xs : List T) → 0 < length xs → is_within cmp xs [] ≡ false
none_left cmp [] h = absurd (omega arith)
none_left cmp (x ∷ xs) h = refl

-- where one list is at its end, all of the first was found or not
pub walk_ends : {T : Type 0} (cmp : T → T → Ordering) (a b : List T) (i j : ℕ) → i ≤ length a → (length a ≤ i) ⊎ ((i < length a) × (length b ≤ j))
    → is_within cmp (drop i a) (drop j b) ≡ is_within cmp a b → (i == length a) ≡ is_within cmp a b
walk_ends cmp a b i j h (inl k) done =
    let e : (i == length a) ≡ true = grind (arith, nat_tests) in
    e ∙ sym (at_drop_all (λ xs. is_within cmp xs (drop j b)) a i k) ∙ done
walk_ends cmp a b i j h (inr k) done =
    let l : i < length a = k.0 in
    let e : (i == length a) ≡ false = grind (arith, nat_tests) in
    let n : 0 < length (drop i a) = rw length-drop (omega arith) in
    e ∙ sym (none_left cmp (drop i a) n) ∙ sym (at_drop_all (λ ys. is_within cmp (drop i a) ys) b j k.1) ∙ done

module _ {T : Type 0} {cmp : T → T → Ordering} (o : IsTotalOrder cmp) where
  skip : (y : T) (ys zs : List T) → AllByRecursion (λ z. cmp y z ≡ Less) zs → is_within cmp zs (y ∷ ys) ≡ is_within cmp zs ys
  skip y ys [] h = refl
  skip y ys (z ∷ zs) h = ap (λ r. (is_eq r || has cmp ys z) && is_within cmp zs (y ∷ ys)) h.0 ∙ ap (λ b. has cmp ys z && b) (skip y ys zs h.1)

  less : (x y : T) (xs ys : List T) → IsSet cmp (y ∷ ys) → cmp x y ≡ Less → is_within cmp (x ∷ xs) (y ∷ ys) ≡ false
  less x y xs ys s e = ap (λ b. b && is_within cmp xs (y ∷ ys)) (above_lacks o x (y ∷ ys) (e, above_more o x y ys e s.0))

  same : (x y : T) (xs ys : List T) → IsSet cmp (x ∷ xs) → cmp x y ≡ Equal → is_within cmp (x ∷ xs) (y ∷ ys) ≡ is_within cmp xs ys
  same x y xs ys s e =
      let back = tied_back o x y e in
      ap (λ r. (is_eq r || has cmp ys x) && is_within cmp xs (y ∷ ys)) back ∙ skip y ys xs (above_same o y x xs back s.0)

  more : (x y : T) (xs ys : List T) → IsSet cmp (x ∷ xs) → cmp x y ≡ Greater → is_within cmp (x ∷ xs) (y ∷ ys) ≡ is_within cmp (x ∷ xs) ys
  more x y xs ys s e = skip y ys (x ∷ xs) (less_back o x y e, above_more o y x xs (less_back o x y e) s.0)

  module _ (a b : List T) (i j : ℕ) (x y : T) (s : IsSet cmp a) (t : IsSet cmp b) (h : i < length a) (k : j < length b) (p : x ≡ get_or a i x)
      (q : y ≡ get_or b j y) where
    sa : IsSet cmp (x ∷ drop (i + 1) a)
    sa = subst (IsSet cmp) (left_at a i x h p) (set_drop cmp a i s)

    sb : IsSet cmp (y ∷ drop (j + 1) b)
    sb = subst (IsSet cmp) (left_at b j y k q) (set_drop cmp b j t)

    here : is_within cmp (drop i a) (drop j b) ≡ is_within cmp (x ∷ drop (i + 1) a) (y ∷ drop (j + 1) b)
    here = ap (λ xs. is_within cmp xs (drop j b)) (left_at a i x h p) ∙ ap (is_within cmp (x ∷ drop (i + 1) a)) (left_at b j y k q)

    pub walk_less : cmp x y ≡ Less → false ≡ is_within cmp (drop i a) (drop j b)
    walk_less e = sym (here ∙ less x y (drop (i + 1) a) (drop (j + 1) b) sb e)

    pub walk_same : cmp x y ≡ Equal → is_within cmp (drop (i + 1) a) (drop (j + 1) b) ≡ is_within cmp (drop i a) (drop j b)
    walk_same e = sym (here ∙ same x y (drop (i + 1) a) (drop (j + 1) b) sa e)

    pub walk_more : cmp x y ≡ Greater → is_within cmp (drop i a) (drop (j + 1) b) ≡ is_within cmp (drop i a) (drop j b)
    walk_more e = ap (λ xs. is_within cmp xs (drop (j + 1) b)) (left_at a i x h p) ∙ sym (here ∙ more x y (drop (i + 1) a) (drop (j + 1) b) sa e)

  -- where the last one is below a value, so is each
  pub last_below : (xs : List T) (k : ℕ) (d z : T) → IsSet cmp xs → suc k ≡ length xs → cmp (get_or xs k d) z ≡ Less → AllByRecursion (λ y. cmp y z ≡ Less) xs
  last_below [] k d z s h e = tt
  last_below (x ∷ []) zero d z s h e = (e, tt)
  last_below (x ∷ []) (suc k) d z s h e = absurd (omega arith)
  last_below (x ∷ y ∷ ys) zero d z s h e = absurd (omega arith)
  last_below (x ∷ y ∷ ys) (suc k) d z s h e =
      let r = last_below (y ∷ ys) k d z s.1 (omega arith) e in
      (o.trans x y z s.0.0 r.0, r)

-- a member above all others goes to the end
pub merge_last : {T : Type 0} (cmp : T → T → Ordering) (xs : List T) (z : T) → AllByRecursion (λ y. cmp y z ≡ Less) xs → merge cmp xs (z ∷ []) ≡ xs ++ z ∷ []
merge_last cmp [] z h = refl
merge_last cmp (x ∷ xs) z h = ap (λ r. match_ordering r (x ∷ merge cmp xs (z ∷ [])) (x ∷ merge cmp xs []) (z ∷ x ∷ xs)) h.0
    ∙ ap (λ l. x ∷ l) (merge_last cmp xs z h.1)
