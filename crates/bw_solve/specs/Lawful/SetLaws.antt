-- The laws of sets: what the order, the union and a sift do to members, and that sets are a lattice.
use Rattle.std.specs.Prelude.{◌≡◌, ◌<◌, ◌≤◌, Bool, true, false, ◌||◌, ◌&&◌, cond, List, [], ◌∷◌, length}
use Rattle.std.proofs.Common.{refl, sym, ap, ◌∙◌, inl, inr, ◌⊎◌, arith}
use Rattle.std.proofs.lemmas.Bool.{false≢true, or_cases, or_left, or_right, and_parts, and_from, cases_Bool}
use Rattle.std.proofs.Math.Bool.{or-false}
use Rattle.std.specs.declared.cmp.Ordering.{Ordering}
use Rattle.std.specs.declared.cmp.Ordering.TheVariants.{Less, Equal, Greater}
use Rattle.std.specs.Cmp.{IsTotalOrder}
use Rattle.std.proofs.lemmas.Cmp.{tied_itself, tied_back, alike_right}
use Rattle.std.specs.Ordering.{is_eq, match_ordering, ordering_reverse}
use Rattle.std.specs.List.{AllByRecursion, AllByRecursion-prop, list_any}
use Rattle.std.specs.Coded.{×_prop, Unit-prop}
use Rattle.std.specs.Ordering.{Ordering-set}
use Rattle.bw_solve.specs.Sets.{IsSet, has, is_within, merge_into, merge, sifted}
use Rattle.bw_solve.specs.Lattice.{IsLattice}

or_assoc : (a b c d : Bool) → (a || (b || (c || d))) ≡ ((a || b) || (c || d))
or_assoc true b c d = refl
or_assoc false b c d = refl

or_same : (a x y : Bool) → (a || (x || y)) ≡ ((a || x) || (a || y))
or_same true x y = refl
or_same false x y = refl

or_swap : (a b y : Bool) → (b || (a || y)) ≡ (a || (b || y))
or_swap true true y = refl
or_swap true false y = refl
or_swap false true y = refl
or_swap false false y = refl

pub is_Equal : (o : Ordering) → is_eq o ≡ true → o ≡ Equal
is_Equal Less h = absurd (false≢true h)
is_Equal Equal h = refl
is_Equal Greater h = absurd (false≢true h)

pub by_order : {T : Type 0} (P : List T → Type 0) (o : Ordering) (a b c : List T) → (o ≡ Less → P a) → (o ≡ Equal → P b) → (o ≡ Greater → P c)
    → P (match_ordering o a b c)
by_order P Less a b c l e g = l refl
by_order P Equal a b c l e g = e refl
by_order P Greater a b c l e g = g refl

pub three : (o : Ordering) → ((o ≡ Less) ⊎ (o ≡ Equal)) ⊎ (o ≡ Greater)
three Less = inl (inl refl)
three Equal = inl (inr refl)
three Greater = inr refl

pub all_weaker : {T : Type 0} (P Q : T → Type 0) (xs : List T) → ((x : T) → P x → Q x) → AllByRecursion P xs → AllByRecursion Q xs
all_weaker P Q [] f h = h
all_weaker P Q (x ∷ xs) f h = (f x h.0, all_weaker P Q xs f h.1)

module _ {T : Type 0} {cmp : T → T → Ordering} (o : IsTotalOrder cmp) where
  pub has_congr : (zs : List T) (x y : T) → cmp x y ≡ Equal → has cmp zs x ≡ has cmp zs y
  has_congr [] x y e = refl
  has_congr (z ∷ zs) x y e = ap (λ r. is_eq r || has cmp zs x) (alike_right o x y z e) ∙ ap (λ b. is_eq (cmp z y) || b) (has_congr zs x y e)

  pub has_within : (xs ys : List T) (z : T) → is_within cmp xs ys ≡ true → has cmp xs z ≡ true → has cmp ys z ≡ true
  has_within [] ys z w h = absurd (false≢true h)
  has_within (x ∷ xs) ys z w h =
      let p = and_parts (has cmp ys x) (is_within cmp xs ys) w in
      elim (or_cases (is_eq (cmp x z)) (has cmp xs z) h) [
        | inl same ↦ sym (has_congr ys x z (is_Equal (cmp x z) same)) ∙ p.0
        | inr later ↦ has_within xs ys z p.1 later
      ]

  pub within_by : (xs ys : List T) → ((z : T) → has cmp xs z ≡ true → has cmp ys z ≡ true) → is_within cmp xs ys ≡ true
  within_by [] ys h = refl
  within_by (x ∷ xs) ys h = and_from (has cmp ys x) (is_within cmp xs ys)
      (h x (ap (λ r. is_eq r || has cmp xs x) (tied_itself o x)))
      (within_by xs ys (λ z k. h z (or_right (is_eq (cmp x z)) (has cmp xs z) k)))

  pub within_itself : (xs : List T) → is_within cmp xs xs ≡ true
  within_itself xs = within_by xs xs (λ z h. h)

  pub within_trans : (xs ys zs : List T) → is_within cmp xs ys ≡ true → is_within cmp ys zs ≡ true → is_within cmp xs zs ≡ true
  within_trans xs ys zs p q = within_by xs zs (λ z h. has_within ys zs z q (has_within xs ys z p h))

  merge_into_any : (f : T → Bool) → ((x y : T) → cmp x y ≡ Equal → f x ≡ f y) → (x : T) (xs : List T) (rest : List T → List T)
      → ((ys : List T) → list_any f (rest ys) ≡ (list_any f xs || list_any f ys)) → (ys : List T)
      → list_any f (merge_into cmp x xs rest ys) ≡ (list_any f (x ∷ xs) || list_any f ys)
  merge_into_any f congr x xs rest h [] = sym (or-false (list_any f (x ∷ xs)))
  merge_into_any f congr x xs rest h (y ∷ ys) = by_order (λ l. list_any f l ≡ ((f x || list_any f xs) || (f y || list_any f ys))) (cmp x y)
      (x ∷ rest (y ∷ ys)) (x ∷ rest ys) (y ∷ merge_into cmp x xs rest ys)
      (λ e. ap (λ b. f x || b) (h (y ∷ ys)) ∙ or_assoc (f x) (list_any f xs) (f y) (list_any f ys))
      (λ e. ap (λ b. f x || b) (h ys) ∙ or_same (f x) (list_any f xs) (list_any f ys)
      ∙ ap (λ b. (f x || list_any f xs) || (b || list_any f ys)) (congr x y e))
      (λ e. ap (λ b. f y || b) (merge_into_any f congr x xs rest h ys) ∙ or_swap (f x || list_any f xs) (f y) (list_any f ys))

  -- a test that doesn't tell equal members apart finds in a union what it finds in either set
  pub merge_any : (f : T → Bool) → ((x y : T) → cmp x y ≡ Equal → f x ≡ f y) → (xs ys : List T)
      → list_any f (merge cmp xs ys) ≡ (list_any f xs || list_any f ys)
  merge_any f congr [] ys = refl
  merge_any f congr (x ∷ xs) ys = merge_into_any f congr x xs (merge cmp xs) (merge_any f congr xs) ys

  pub merge_has : (xs ys : List T) (z : T) → has cmp (merge cmp xs ys) z ≡ (has cmp xs z || has cmp ys z)
  merge_has xs ys z = merge_any (λ y. is_eq (cmp y z)) (λ x y e. ap is_eq (o.congr x y z e)) xs ys

  -- such a test finds a member of a set in each set that has it
  has_any : (f : T → Bool) → ((x y : T) → cmp x y ≡ Equal → f x ≡ f y) → (ys : List T) (x : T) → has cmp ys x ≡ true → f x ≡ true → list_any f ys ≡ true
  has_any f congr [] x h t = absurd (false≢true h)
  has_any f congr (y ∷ ys) x h t = elim (or_cases (is_eq (cmp y x)) (has cmp ys x) h) [
    | inl same ↦ or_left (f y) (list_any f ys) (congr y x (is_Equal (cmp y x) same) ∙ t)
    | inr later ↦ or_right (f y) (list_any f ys) (has_any f congr ys x later t)
  ]

  pub within_any : (f : T → Bool) → ((x y : T) → cmp x y ≡ Equal → f x ≡ f y) → (xs ys : List T)
      → is_within cmp xs ys ≡ true → list_any f xs ≡ true → list_any f ys ≡ true
  within_any f congr [] ys w h = absurd (false≢true h)
  within_any f congr (x ∷ xs) ys w h =
      let p = and_parts (has cmp ys x) (is_within cmp xs ys) w in
      elim (or_cases (f x) (list_any f xs) h) [
        | inl here ↦ has_any f congr ys x p.0 here
        | inr later ↦ within_any f congr xs ys p.1 later
      ]

  merge_into_all : (P : T → Type 0) (x : T) (xs : List T) (rest : List T → List T) → P x → AllByRecursion P xs
      → ((ys : List T) → AllByRecursion P ys → AllByRecursion P (rest ys))
      → (ys : List T) → AllByRecursion P ys → AllByRecursion P (merge_into cmp x xs rest ys)
  merge_into_all P x xs rest px pxs h [] q = (px, pxs)
  merge_into_all P x xs rest px pxs h (y ∷ ys) q = by_order (AllByRecursion P) (cmp x y) (x ∷ rest (y ∷ ys)) (x ∷ rest ys) (y ∷ merge_into cmp x xs rest ys)
      (λ e. (px, h (y ∷ ys) q)) (λ e. (px, h ys q.1)) (λ e. (q.0, merge_into_all P x xs rest px pxs h ys q.1))

  pub merge_all : (P : T → Type 0) (xs ys : List T) → AllByRecursion P xs → AllByRecursion P ys → AllByRecursion P (merge cmp xs ys)
  merge_all P [] ys p q = q
  merge_all P (x ∷ xs) ys p q = merge_into_all P x xs (merge cmp xs) p.0 p.1 (λ zs r. merge_all P xs zs p.1 r) ys q

  pub less_back : (x y : T) → cmp x y ≡ Greater → cmp y x ≡ Less
  less_back x y e = o.antisymm y x ∙ ap ordering_reverse e

  pub above_more : (x y : T) (ys : List T) → cmp x y ≡ Less → AllByRecursion (λ z. cmp y z ≡ Less) ys → AllByRecursion (λ z. cmp x z ≡ Less) ys
  above_more x y ys e h = all_weaker (λ z. cmp y z ≡ Less) (λ z. cmp x z ≡ Less) ys (λ z k. o.trans x y z e k) h

  pub above_same : (x y : T) (ys : List T) → cmp x y ≡ Equal → AllByRecursion (λ z. cmp y z ≡ Less) ys → AllByRecursion (λ z. cmp x z ≡ Less) ys
  above_same x y ys e h = all_weaker (λ z. cmp y z ≡ Less) (λ z. cmp x z ≡ Less) ys (λ z k. o.congr x y z e ∙ k) h

  merge_into_set : (x : T) (xs : List T) (rest : List T → List T) → IsSet cmp (x ∷ xs)
      → ((ys : List T) → IsSet cmp ys → IsSet cmp (rest ys)) → ((P : T → Type 0) (ys : List T) → AllByRecursion P xs → AllByRecursion P ys
      → AllByRecursion P (rest ys))
      → (ys : List T) → IsSet cmp ys → IsSet cmp (merge_into cmp x xs rest ys)
  merge_into_set x xs rest s h a [] q = s
  merge_into_set x xs rest s h a (y ∷ ys) q = by_order (IsSet cmp) (cmp x y) (x ∷ rest (y ∷ ys)) (x ∷ rest ys) (y ∷ merge_into cmp x xs rest ys)
      (λ e. (a (λ z. cmp x z ≡ Less) (y ∷ ys) s.0 (e, above_more x y ys e q.0), h (y ∷ ys) q))
      (λ e. (a (λ z. cmp x z ≡ Less) ys s.0 (above_same x y ys e q.0), h ys q.1))
      (λ e. (
        merge_into_all (λ z. cmp y z ≡ Less) x xs rest (less_back x y e) (above_more y x xs (less_back x y e) s.0)
            (λ zs r. a (λ z. cmp y z ≡ Less) zs (above_more y x xs (less_back x y e) s.0) r) ys q.0,
        merge_into_set x xs rest s h a ys q.1,
      ))

  pub merge_set : (xs ys : List T) → IsSet cmp xs → IsSet cmp ys → IsSet cmp (merge cmp xs ys)
  merge_set [] ys p q = q
  merge_set (x ∷ xs) ys p q = merge_into_set x xs (merge cmp xs) p (λ zs r. merge_set xs zs p.1 r) (λ P zs. merge_all P xs zs) ys q

  pub merge_left : (xs ys : List T) → is_within cmp xs (merge cmp xs ys) ≡ true
  merge_left xs ys = within_by xs (merge cmp xs ys) (λ z h. merge_has xs ys z ∙ ap (λ b. b || has cmp ys z) h)

  pub merge_right : (xs ys : List T) → is_within cmp ys (merge cmp xs ys) ≡ true
  merge_right xs ys = within_by ys (merge cmp xs ys) (λ z h. merge_has xs ys z ∙ or_right (has cmp xs z) (has cmp ys z) h)

  pub merge_least : (xs ys zs : List T) → is_within cmp xs zs ≡ true → is_within cmp ys zs ≡ true → is_within cmp (merge cmp xs ys) zs ≡ true
  merge_least xs ys zs p q = within_by (merge cmp xs ys) zs (λ z h. elim (or_cases (has cmp xs z) (has cmp ys z) (sym (merge_has xs ys z) ∙ h)) [
    | inl there ↦ has_within xs zs z p there
    | inr there ↦ has_within ys zs z q there
  ])

  pub above_lacks : (x : T) (ys : List T) → AllByRecursion (λ z. cmp x z ≡ Less) ys → has cmp ys x ≡ false
  above_lacks x [] h = refl
  above_lacks x (y ∷ ys) h = ap (λ r. is_eq r || has cmp ys x) (o.antisymm y x ∙ ap ordering_reverse h.0) ∙ above_lacks x ys h.1

  within_tail : (xs : List T) (y : T) (ys : List T) → AllByRecursion (λ z. cmp y z ≡ Less) xs → is_within cmp xs (y ∷ ys) ≡ true → is_within cmp xs ys ≡ true
  within_tail [] y ys h w = refl
  within_tail (x ∷ xs) y ys h w =
      let p = and_parts (is_eq (cmp y x) || has cmp ys x) (is_within cmp xs (y ∷ ys)) w in
      and_from (has cmp ys x) (is_within cmp xs ys) (ap (λ r. is_eq r || has cmp ys x) (sym h.0) ∙ p.0) (within_tail xs y ys h.1 p.1)

  no_less : (x y : T) (ys xs : List T) → IsSet cmp (y ∷ ys) → is_within cmp (x ∷ xs) (y ∷ ys) ≡ true → cmp y x ≡ Greater → false ≡ true
  no_less x y ys xs s w e =
      let less = less_back y x e in
      sym (above_lacks x (y ∷ ys) (less, above_more x y ys less s.0)) ∙ (and_parts (has cmp (y ∷ ys) x) (is_within cmp xs (y ∷ ys)) w).0

  -- a set within another is no longer
  pub within_size : (ys xs : List T) → IsSet cmp xs → IsSet cmp ys → is_within cmp xs ys ≡ true → length xs ≤ length ys
  within_size ys [] p q w = omega arith
  within_size [] (x ∷ xs) p q w = absurd (false≢true w)
  within_size (y ∷ ys) (x ∷ xs) p q w = elim (three (cmp y x)) [
    | inl r ↦ elim r [
      | inl e ↦ omega (arith, within_size ys (x ∷ xs) p q.1 (within_tail (x ∷ xs) y ys (e, above_more y x xs e p.0) w))
      | inr e ↦ omega (
        arith,
        within_size ys xs p.1 q.1 (within_tail xs y ys (above_same y x xs e p.0)
            (and_parts (has cmp (y ∷ ys) x) (is_within cmp xs (y ∷ ys)) w).1),
      )
    ]
    | inr e ↦ absurd (false≢true (no_less x y ys xs q w e))
  ]

  both_within : (x y : T) (xs ys : List T) → cmp y x ≡ Equal → is_within cmp ys xs ≡ true → is_within cmp (y ∷ ys) (x ∷ xs) ≡ true
  both_within x y xs ys e w = and_from (has cmp (x ∷ xs) y) (is_within cmp ys (x ∷ xs))
      (ap (λ r. is_eq r || has cmp xs y) (tied_back o y x e))
      (within_by ys (x ∷ xs) (λ z h. or_right (is_eq (cmp x z)) (has cmp xs z) (has_within ys xs z w h)))

  -- a set within another that isn't within it is shorter
  pub within_rises : (ys xs : List T) → IsSet cmp xs → IsSet cmp ys → is_within cmp xs ys ≡ true → is_within cmp ys xs ≡ false → length xs < length ys
  within_rises [] [] p q w n = absurd (false≢true (sym n))
  within_rises (y ∷ ys) [] p q w n = omega arith
  within_rises [] (x ∷ xs) p q w n = absurd (false≢true w)
  within_rises (y ∷ ys) (x ∷ xs) p q w n = elim (three (cmp y x)) [
    | inl r ↦ elim r [
      | inl e ↦ omega (arith, within_size ys (x ∷ xs) p q.1 (within_tail (x ∷ xs) y ys (e, above_more y x xs e p.0) w))
      | inr e ↦ elim (cases_Bool (is_within cmp ys xs)) [
        | inl back ↦ absurd (false≢true (sym n ∙ both_within x y xs ys e back))
        | inr less ↦ omega (
          arith,
          within_rises ys xs p.1 q.1 (within_tail xs y ys (above_same y x xs e p.0)
              (and_parts (has cmp (y ∷ ys) x) (is_within cmp xs (y ∷ ys)) w).1) less,
        )
      ]
    ]
    | inr e ↦ absurd (false≢true (no_less x y ys xs q w e))
  ]

  -- the sets over an order are a lattice
  pub set_lattice : IsLattice {V = List T} (λ a b. IsSet cmp a × IsSet cmp b) (is_within cmp) (merge cmp) length length
  set_lattice = record {
    alike_symm = λ a b h. (h.1, h.0);
    alike_trans = λ a b c h k. (h.0, k.1);
    below_refl = λ a h. within_itself a;
    below_trans = λ a b c h k p q. within_trans a b c p q;
    join_alike = λ a b h. (merge_set a b h.0 h.1, h.0);
    join_left = λ a b h. merge_left a b;
    join_right = λ a b h. merge_right a b;
    join_least = λ a b c h k p q. merge_least a b c p q;
    size_grows = λ a b h p. within_size b a h.0 h.1 p;
    rank_grows = λ a b h p. within_size b a h.0 h.1 p;
    rank_rises = λ a b h p n. within_rises b a h.0 h.1 p n;
  }

-- two proofs that a list is a set are equal, as a ghost field asks
pub IsSet-prop : {T : Type 0} (cmp : T → T → Ordering) (xs : List T) → IsProp (IsSet cmp xs)
IsSet-prop cmp [] = Unit-prop
IsSet-prop cmp (x ∷ xs) = ×_prop (AllByRecursion-prop (λ y. cmp x y ≡ Less) (λ y. Ordering-set (cmp x y) Less) xs) (IsSet-prop cmp xs)

-- the members that are kept
sift_cases : (a e h l : Bool) → (e ≡ true → l ≡ true) → ((a || (e || false)) || (h && l)) ≡ (a || ((e || h) && l))
sift_cases true e h l p = refl
sift_cases false true h l p = sym (p refl)
sift_cases false false h l p = refl

pub sifted_has : {T : Type 0} {cmp : T → T → Ordering} (o : IsTotalOrder cmp) (keep : T → Bool) → ((x y : T) → cmp x y ≡ Equal → keep x ≡ keep y)
    → (all xs : List T) (z : T) → has cmp (sifted cmp keep all xs) z ≡ (has cmp all z || (has cmp xs z && keep z))
sifted_has {cmp = cmp} o keep congr all [] z = sym (or-false (has cmp all z))
sifted_has {cmp = cmp} o keep congr all (x ∷ xs) z =
    sifted_has o keep congr (cond (keep x) (merge cmp all (x ∷ [])) all) xs z
    ∙ elim (cases_Bool (keep x)) [
      | inl on ↦ ap (λ b. has cmp (cond b (merge cmp all (x ∷ [])) all) z || (has cmp xs z && keep z)) on
          ∙ ap (λ b. b || (has cmp xs z && keep z)) (merge_has o all (x ∷ []) z)
          ∙ sift_cases (has cmp all z) (is_eq (cmp x z)) (has cmp xs z) (keep z) (λ e. sym (congr x z (is_Equal (cmp x z) e)) ∙ on)
      | inr off ↦ ap (λ b. has cmp (cond b (merge cmp all (x ∷ [])) all) z || (has cmp xs z && keep z)) off
          ∙ skip_cases (has cmp all z) (is_eq (cmp x z)) (has cmp xs z) (keep z) (λ e. sym (congr x z (is_Equal (cmp x z) e)) ∙ off)
    ]
  where
    skip_cases : (a e h l : Bool) → (e ≡ true → l ≡ false) → (a || (h && l)) ≡ (a || ((e || h) && l))
    skip_cases true e h l p = refl
    skip_cases false false h l p = refl
    skip_cases false true true l p = refl
    skip_cases false true false l p = sym (p refl)

-- what is sifted into a set keeps to what both keep to
pub sifted_all : {T : Type 0} {cmp : T → T → Ordering} (o : IsTotalOrder cmp) (P : T → Type 0) (keep : T → Bool) (all xs : List T) → AllByRecursion P all
    → AllByRecursion P xs → AllByRecursion P (sifted cmp keep all xs)
sifted_all o P keep all [] p q = p
sifted_all {cmp = cmp} o P keep all (x ∷ xs) p q = sifted_all o P keep (cond (keep x) (merge cmp all (x ∷ [])) all) xs (one (keep x)) q.1
  where
    one : (b : Bool) → AllByRecursion P (cond b (merge cmp all (x ∷ [])) all)
    one true = merge_all o P all (x ∷ []) p (q.0, tt)
    one false = p

pub sifted_set : {T : Type 0} {cmp : T → T → Ordering} (o : IsTotalOrder cmp) (keep : T → Bool) (all xs : List T) → IsSet cmp all
    → IsSet cmp (sifted cmp keep all xs)
sifted_set o keep all [] s = s
sifted_set {cmp = cmp} o keep all (x ∷ xs) s = sifted_set o keep (cond (keep x) (merge cmp all (x ∷ [])) all) xs (one (keep x))
  where
    one : (b : Bool) → IsSet cmp (cond b (merge cmp all (x ∷ [])) all)
    one true = merge_set o all (x ∷ []) s (tt, tt)
    one false = s
