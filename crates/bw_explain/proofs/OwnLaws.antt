-- The attributes that break a rule.
use Rattle.std.proofs.Common.{◌≡◌, inl, inr, ℕ, ◌+◌, Bool, true, false, ◌||◌, ◌&&◌, not, List, [], ◌∷◌, ◌++◌, length, refl, ap, sym, ◌∙◌, arith}
use Rattle.bw_lang.specs.Table.Names.{same}
use Rattle.std.specs.List.{list_any, list_all}
use Rattle.std.proofs.lemmas.Bool.{false≢true, not-true, not_from_false, and_parts, and_from, and_cases, and_left, and_right, or_cases, or_parts, or_from}
use Rattle.std.proofs.lemmas.Bool.{or_left, or_right}
use Rattle.std.proofs.lemmas.List.Folds.{list_any-append}
use Rattle.std.proofs.Math.Bool.{and-true, and_assoc, or-false}
use Rattle.bw_lang.specs.declared.items.Attr.{Attr}
use Rattle.bw_lang.specs.declared.items.AttrValue.{AttrValue}
use Rattle.bw_lang.specs.declared.items.AttrValue.TheVariants.{Fixed, Hole}
use Rattle.bw_schema.specs.Validity.{on_fixed, each_fixed}
use Rattle.bw_sum.specs.Unfolding.{FillsValue, kept, left_open, said_in, FillsAttrs, no_more, more}
use Rattle.bw_explain.specs.Ways.{Way, way_of, ways_at, graph}
use Rattle.bw_explain.specs.Sizes.{capped, may_fill}
use Rattle.bw_explain.specs.Owns.{OwnIs, FailsIs, may_fail, failing_own, value_passes, has_passing, may_leave, leaving_own}
use Rattle.bw_explain.proofs.Numbers.{if_true, if_there}
use Rattle.bw_explain.proofs.Filling.{fills_attrs, attrs_there, value_there}

module _ (nodes : List (List Way)) (test : List ℕ → List ℕ → Bool) (fails : List ℕ → Way → Bool) (fails_is : FailsIs test fails) where
  value_fails : (n : ℕ) (x : List ℕ) {u v : AttrValue} → FillsValue (graph nodes) n u v → on_fixed test x v ≡ false
      → may_fail (ways_at nodes n) test fails x u ≡ true
  value_fails n x kept h = not_from_false (test x _) h
  value_fails n x (left_open o) h = absurd (false≢true (sym h))
  value_fails n x (said_in {g = g} {s = s} l) h = fails_is.low x (way_of (ways_at nodes n) g) s l h

  attrs_fail : (n : ℕ) {a b : List Attr} → FillsAttrs (graph nodes) n a b → each_fixed test b ≡ false
      → list_any (λ x. may_fail (ways_at nodes n) test fails x.name x.value) a ≡ true
  attrs_fail n no_more h = absurd (false≢true (sym h))
  attrs_fail n (more {x = x} {u = u} {v = v} {a = a} {b = b} q r) h = elim (and_cases (on_fixed test x v) (each_fixed test b) h) [
    | inl k ↦ or_left (may_fail (ways_at nodes n) test fails x u) _ (value_fails n x q k)
    | inr k ↦ or_right (may_fail (ways_at nodes n) test fails x u) _ (attrs_fail n r k)
  ]

  value_failing : (n : ℕ) (x : List ℕ) (u : AttrValue) → may_fail (ways_at nodes n) test fails x u ≡ true → (v : AttrValue) × FillsValue (graph nodes) n u v
      × (on_fixed test x v ≡ false)
  value_failing n x (Fixed s) h = (Fixed s, kept, not-true (test x s) h)
  value_failing n x (Hole g) h = let s = fails_is.high x (way_of (ways_at nodes n) g) h in (Fixed s.0, said_in s.1, s.2)

  attrs_failing : (n : ℕ) (a : List Attr) → list_all (λ x. may_fill (ways_at nodes n) x.value) a ≡ true
      → list_any (λ x. may_fail (ways_at nodes n) test fails x.name x.value) a ≡ true
      → (b : List Attr) × FillsAttrs (graph nodes) n a b × (each_fixed test b ≡ false)
  attrs_failing n [] f h = absurd (false≢true h)
  attrs_failing n (c ∷ a) f h =
      let p = and_parts (may_fill (ways_at nodes n) c.value) (list_all (λ x. may_fill (ways_at nodes n) x.value) a) f in
      elim (or_cases (may_fail (ways_at nodes n) test fails c.name c.value) (list_any (λ x. may_fail (ways_at nodes n) test fails x.name x.value) a) h) [
        | inl k ↦ let v = value_failing n c.name c.value k in let r = attrs_there nodes n a p.1 in
            (record { name = c.name; value = v.0 } ∷ r.0, more v.1 r.1, and_left (on_fixed test c.name v.0) (each_fixed test r.0) v.2)
        | inr k ↦ let v = value_there nodes n c.value p.0 in let r = attrs_failing n a p.1 k in
            (record { name = c.name; value = v.0 } ∷ r.0, more v.1 r.1, and_right (on_fixed test c.name v.0) (each_fixed test r.0) r.2)
      ]

  pub failing_is : OwnIs (graph nodes) (λ b. not (each_fixed test b)) (failing_own nodes test fails)
  failing_is = record {
    low = λ n a b q h.
        let f = fills_attrs nodes q in
        let k = attrs_fail n q (not-true (each_fixed test b) h) in
        let e = if_true (list_all (λ x. may_fill (ways_at nodes n) x.value) a && list_any (λ x. may_fail (ways_at nodes n) test fails x.name x.value) a)
        (capped (length a)) (and_from _ _ f.0 k) in
        let g = ap capped f.1 in omega (arith, e, g);
    high = λ n a l.
        let c = if_there (list_all (λ x. may_fill (ways_at nodes n) x.value) a && list_any (λ x. may_fail (ways_at nodes n) test fails x.name x.value) a)
        (capped (length a)) l in
        let p = and_parts (list_all (λ x. may_fill (ways_at nodes n) x.value) a) (list_any (λ x. may_fail (ways_at nodes n) test fails x.name x.value) a) c.0 in
        let b = attrs_failing n a p.0 p.1 in
        (b.0, b.1, not_from_false (each_fixed test b.0) b.2, let g = ap capped (fills_attrs nodes b.1).1 in let e = c.1 in omega (arith, g, e));
  }

-- each attribute of the name x is left open or doesn't pass
module _ (nodes : List (List Way)) (test : List ℕ → List ℕ → Bool) (fails : List ℕ → Way → Bool) (fails_is : FailsIs test fails) where
  value_leaves : (n : ℕ) (y : List ℕ) (is : Bool) {u v : AttrValue} → FillsValue (graph nodes) n u v → (is && value_passes test y v) ≡ false
      → (not is || may_leave (ways_at nodes n) test fails y u) ≡ true
  value_leaves n y true kept h = not_from_false (test y _) h
  value_leaves n y true (left_open {g = g} o) h = or_left (way_of (ways_at nodes n) g).is_open (fails y (way_of (ways_at nodes n) g)) o
  value_leaves n y true (said_in {g = g} {s = s} l) h = or_right (way_of (ways_at nodes n) g).is_open (fails y (way_of (ways_at nodes n) g))
      (fails_is.low y (way_of (ways_at nodes n) g) s l h)
  value_leaves n y false q h = refl

  abbrev all_leave : ℕ → List ℕ → List Attr → Bool
  all_leave n x a = list_all (λ c. not (same c.name x) || may_leave (ways_at nodes n) test fails c.name c.value) a

  attrs_leave : (n : ℕ) (x : List ℕ) {a b : List Attr} → FillsAttrs (graph nodes) n a b → has_passing test x b ≡ false → all_leave n x a ≡ true
  attrs_leave n x no_more h = refl
  attrs_leave n x (more {x = y} {u = u} {v = v} {a = a} {b = b} q r) h =
      let k = or_parts (same y x && value_passes test y v) (has_passing test x b) h in
      and_from (not (same y x) || may_leave (ways_at nodes n) test fails y u) (all_leave n x a) (value_leaves n y (same y x) q k.0) (attrs_leave n x r k.1)

  value_leaving : (n : ℕ) (y : List ℕ) (is : Bool) (u : AttrValue) → may_fill (ways_at nodes n) u ≡ true
      → (not is || may_leave (ways_at nodes n) test fails y u) ≡ true
      → (v : AttrValue) × FillsValue (graph nodes) n u v × ((is && value_passes test y v) ≡ false)
  value_leaving n y true (Fixed s) f h = (Fixed s, kept, not-true (test y s) h)
  value_leaving n y true (Hole g) f h = elim (or_cases (way_of (ways_at nodes n) g).is_open (fails y (way_of (ways_at nodes n) g)) h) [
    | inl o ↦ (Hole g, left_open o, refl)
    | inr k ↦ let s = fails_is.high y (way_of (ways_at nodes n) g) k in (Fixed s.0, said_in s.1, s.2)
  ]
  value_leaving n y false u f h = let v = value_there nodes n u f in (v.0, v.1, refl)

  attrs_leaving : (n : ℕ) (x : List ℕ) (a : List Attr) → list_all (λ c. may_fill (ways_at nodes n) c.value) a ≡ true → all_leave n x a ≡ true
      → (b : List Attr) × FillsAttrs (graph nodes) n a b × (has_passing test x b ≡ false)
  attrs_leaving n x [] f h = ([], no_more, refl)
  attrs_leaving n x (c ∷ a) f h =
      let p = and_parts (may_fill (ways_at nodes n) c.value) (list_all (λ c. may_fill (ways_at nodes n) c.value) a) f in
      let k = and_parts (not (same c.name x) || may_leave (ways_at nodes n) test fails c.name c.value) (all_leave n x a) h in
      let v = value_leaving n c.name (same c.name x) c.value p.0 k.0 in
      let r = attrs_leaving n x a p.1 k.1 in
      (record { name = c.name; value = v.0 } ∷ r.0, more v.1 r.1, or_from (same c.name x && value_passes test c.name v.0) (has_passing test x r.0) v.2 r.2)

  pub leaving_is : (x : List ℕ) → OwnIs (graph nodes) (λ b. not (has_passing test x b)) (leaving_own nodes test fails x)
  leaving_is x = record {
    low = λ n a b q h.
        let f = fills_attrs nodes q in
        let k = attrs_leave n x q (not-true (has_passing test x b) h) in
        let e = if_true (list_all (λ c. may_fill (ways_at nodes n) c.value) a && all_leave n x a) (capped (length a)) (and_from _ _ f.0 k) in
        let g = ap capped f.1 in omega (arith, e, g);
    high = λ n a l.
        let c = if_there (list_all (λ c. may_fill (ways_at nodes n) c.value) a && all_leave n x a) (capped (length a)) l in
        let p = and_parts (list_all (λ c. may_fill (ways_at nodes n) c.value) a) (all_leave n x a) c.0 in
        let b = attrs_leaving n x a p.0 p.1 in
        (b.0, b.1, not_from_false (has_passing test x b.0) b.2, let g = ap capped (fills_attrs nodes b.1).1 in let e = c.1 in omega (arith, g, e));
  }

-- one attribute more
pub failing_then : (p : Attr → Bool) (test : List ℕ → List ℕ → Bool) (xs out : List Attr) (x y : Attr) → (list_any p xs ≡ true → each_fixed test out ≡ false)
    → (p x ≡ true → on_fixed test y.name y.value ≡ false) → list_any p (xs ++ x ∷ []) ≡ true → each_fixed test (out ++ y ∷ []) ≡ false
failing_then p test xs out x y h k l =
    all_snoc test out y ∙ elim (or_cases (list_any p xs) (list_any p (x ∷ [])) (sym (list_any-append p xs (x ∷ [])) ∙ l)) [
      | inl e ↦ and_left (each_fixed test out) (on_fixed test y.name y.value) (h e)
      | inr e ↦ and_right (each_fixed test out) (on_fixed test y.name y.value) (k (sym (or-false (p x)) ∙ e))
    ]
  where
    all_snoc : (test : List ℕ → List ℕ → Bool) (out : List Attr) (y : Attr) → each_fixed test (out ++ y ∷ [])
        ≡ (each_fixed test out && on_fixed test y.name y.value)
    all_snoc test [] y = and-true (on_fixed test y.name y.value)
    all_snoc test (z ∷ out) y = ap (λ b. on_fixed test z.name z.value && b) (all_snoc test out y)
        ∙ sym (and_assoc (on_fixed test z.name z.value) (each_fixed test out) (on_fixed test y.name y.value))

pub passing_then : (test : List ℕ → List ℕ → Bool) (x : List ℕ) (out : List Attr) (y : Attr) → has_passing test x out ≡ false
    → (same y.name x ≡ true → value_passes test y.name y.value ≡ false) → has_passing test x (out ++ y ∷ []) ≡ false
passing_then test x out y h k =
    list_any-append (λ c. same c.name x && value_passes test c.name c.value) out (y ∷ [])
    ∙ or_from (has_passing test x out) ((same y.name x && value_passes test y.name y.value) || false) h
    (or-false _ ∙ both_not (same y.name x) (value_passes test y.name y.value) k)
  where
    both_not : (a b : Bool) → (a ≡ true → b ≡ false) → (a && b) ≡ false
    both_not true b k = k refl
    both_not false b k = refl
