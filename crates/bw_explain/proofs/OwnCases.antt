-- The least number of the attributes of an element, by the way in which it is broken.
use Rattle.std.proofs.Common.{◌≡◌, ℕ, ◌≤◌, true, ◌||◌, ◌&&◌, not, List, length, refl, sym, subst, arith}
use Rattle.std.specs.List.{list_any, list_all}
use Rattle.std.proofs.lemmas.Bool.{and_parts}
use Rattle.bw_lang.specs.declared.items.Attr.{Attr}
use Rattle.bw_lang.specs.Table.Names.{same}
use Rattle.bw_schema.specs.declared.rules.Rule.{Rule}
use Rattle.bw_explain.specs.declared.sizes.TheConstants.{MAX_SIZE, PAST}
use Rattle.bw_explain.specs.declared.atom.Atom.{Atom}
use Rattle.bw_explain.specs.declared.atom.Atom.TheVariants.{NotAllowed, OtherValue, Absent, Outside, BadChild, BadText, Missing, Crossing}
use Rattle.bw_explain.specs.Atoms.{passes, fails}
use Rattle.bw_explain.specs.Owns.{may_fail, may_leave, failing_own, leaving_own, own_broken, own_least}
use Rattle.bw_explain.specs.Sizes.{capped, plus, may_fill, attrs_least}
use Rattle.bw_explain.specs.Ways.{Way, ways_at}
use Rattle.bw_explain.proofs.Numbers.{left_of, right_of, trans, same_le, if_there}

module _ (nodes : List (List Way)) (r : Rule) (n : ℕ) (attrs : List Attr) where
  abbrev pub Fills : Type 0
  Fills = list_all (λ x. may_fill (ways_at nodes n) x.value) attrs ≡ true

  abbrev pub Fails : Atom → Type 0
  Fails a = list_any (λ x. may_fail (ways_at nodes n) (passes r a) (fails r a) x.name x.value) attrs ≡ true

  abbrev pub Leaves : Atom → List ℕ → Type 0
  Leaves a x = list_all (λ c. not (same c.name x) || may_leave (ways_at nodes n) (passes r a) (fails r a) c.name c.value) attrs ≡ true

  -- what holds where attributes can be broken so
  pub failing_parts : (a c : Atom) → a ≡ c → own_least nodes r c n attrs ≡ failing_own nodes (passes r c) (fails r c) n attrs
      → own_least nodes r a n attrs ≤ PAST → Fills × Fails a
  failing_parts a c e f l =
      let k = subst (λ v. v ≤ PAST) f (subst (λ (z : Atom). own_least nodes r z n attrs ≤ PAST) e l) in
      let p = and_parts (list_all (λ x. may_fill (ways_at nodes n) x.value) attrs)
      (list_any (λ x. may_fail (ways_at nodes n) (passes r c) (fails r c) x.name x.value) attrs)
      (if_there (list_all (λ x. may_fill (ways_at nodes n) x.value) attrs
      && list_any (λ x. may_fail (ways_at nodes n) (passes r c) (fails r c) x.name x.value) attrs) (capped (length attrs)) k).0 in
      (p.0, subst (λ (z : Atom). Fails z) (sym e) p.1)

  pub leaving_parts : (a c : Atom) (x : List ℕ) → a ≡ c → own_least nodes r c n attrs ≡ leaving_own nodes (passes r c) (fails r c) x n attrs
      → own_least nodes r a n attrs ≤ PAST → Fills × Leaves a x
  leaving_parts a c x e f l =
      let k = subst (λ v. v ≤ PAST) f (subst (λ (z : Atom). own_least nodes r z n attrs ≤ PAST) e l) in
      let p = and_parts (list_all (λ c. may_fill (ways_at nodes n) c.value) attrs)
      (list_all (λ y. not (same y.name x) || may_leave (ways_at nodes n) (passes r c) (fails r c) y.name y.value) attrs)
      (if_there (list_all (λ c. may_fill (ways_at nodes n) c.value) attrs
      && list_all (λ y. not (same y.name x) || may_leave (ways_at nodes n) (passes r c) (fails r c) y.name y.value) attrs) (capped (length attrs)) k).0 in
      (p.0, subst (λ (z : Atom). Leaves z x) (sym e) p.1)

  -- where no attribute breaks a rule
  pub other_least : (a : Atom) → (a ≡ NotAllowed → ⊥) → (a ≡ OtherValue → ⊥) → ((x : List ℕ) → a ≡ Absent x → ⊥)
      → ((x : List ℕ) (vs : List (List ℕ)) → a ≡ Outside x vs → ⊥) → own_least nodes r a n attrs ≡ attrs_least (ways_at nodes n) attrs
  other_least NotAllowed f g h k = absurd (f refl)
  other_least OtherValue f g h k = absurd (g refl)
  other_least (Absent x) f g h k = absurd (h x refl)
  other_least (Outside x vs) f g h k = absurd (k x vs refl)
  other_least BadChild f g h k = refl
  other_least BadText f g h k = refl
  other_least (Missing x) f g h k = refl
  other_least (Crossing x y) f g h k = refl

  pub other_broken : (a : Atom) (b : List Attr) → (a ≡ NotAllowed → ⊥) → (a ≡ OtherValue → ⊥) → ((x : List ℕ) → a ≡ Absent x → ⊥)
      → ((x : List ℕ) (vs : List (List ℕ)) → a ≡ Outside x vs → ⊥) → own_broken r a b ≡ true
  other_broken NotAllowed b f g h k = absurd (f refl)
  other_broken OtherValue b f g h k = absurd (g refl)
  other_broken (Absent x) b f g h k = absurd (h x refl)
  other_broken (Outside x vs) b f g h k = absurd (k x vs refl)
  other_broken BadChild b f g h k = refl
  other_broken BadText b f g h k = refl
  other_broken (Missing x) b f g h k = refl
  other_broken (Crossing x y) b f g h k = refl

-- the number of attributes of an element that isn't too big
below : MAX_SIZE ≤ PAST
below = omega arith

pub own_within : (own inner sum whole : ℕ) → whole ≡ plus sum inner → sum ≡ plus 1 own → whole ≤ MAX_SIZE → own ≤ PAST
own_within own inner sum whole e f h =
    trans own MAX_SIZE PAST (right_of 1 own MAX_SIZE (same_le MAX_SIZE)
    (subst (λ v. v ≤ MAX_SIZE) f (left_of sum inner MAX_SIZE (same_le MAX_SIZE) (subst (λ v. v ≤ MAX_SIZE) e h) below)) below) below
