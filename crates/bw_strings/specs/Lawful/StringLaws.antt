-- The laws of string sets.
use Rattle.std.specs.Prelude.{◌≡◌, ℕ, ◌+◌, ◌-◌, ◌^◌, ◌<◌, ◌≤◌, true, false, List, [], ◌∷◌, length}
use Rattle.std.proofs.Common.{refl, sym, arith}
use Rattle.std.proofs.lemmas.Bool.{false≢true}
use Rattle.std.specs.declared.cmp.Ordering.TheVariants.{Less}
use Rattle.std.specs.Ordering.{nat_cmp}
use Rattle.std.specs.List.{AllByRecursion}
use Rattle.std.proofs.lemmas.Cmp.{nat_cmp_total, ranked}
use Rattle.bw_solve.specs.Lattice.{IsLattice}
use Rattle.bw_solve.specs.Sets.{IsSet}
use Rattle.bw_solve.specs.Lawful.SetLaws.{merge_all, merge_set, merge_left, merge_right, merge_least, within_itself, within_trans, within_size, within_rises}
use Rattle.bw_strings.specs.declared.strings.StrSet.{StrSet}
use Rattle.bw_strings.specs.declared.strings.StrSet.TheVariants.{Any, Of}
use Rattle.bw_strings.specs.Strings.{AreWellFormed, is_below, both, size_of, rank_of, is_none}

-- ascending numbers from low on, is_below a bound
pub few_from : (n low : ℕ) (xs : List ℕ) → AllByRecursion (λ x. low ≤ x) xs → IsSet nat_cmp xs → AllByRecursion (λ x. x < n) xs → length xs ≤ n - low
few_from n low [] l s h = omega arith
few_from n low (x ∷ xs) l s h = let k = few_from n (x + 1) xs (above x xs s.0) s.1 h.1 in let a : low ≤ x = l.0 in let b : x < n = h.0 in omega (arith, k)
  where
    above : (x : ℕ) (xs : List ℕ) → AllByRecursion (λ y. nat_cmp x y ≡ Less) xs → AllByRecursion (λ y. x + 1 ≤ y) xs
    above x [] s = tt
    above x (y ∷ ys) s = (let r : x < y = ranked x y Less (sym s.0) in omega arith, above x ys s.1)

zero_on : (xs : List ℕ) → AllByRecursion (λ x. 0 ≤ x) xs
zero_on [] = tt
zero_on (x ∷ xs) = (omega arith, zero_on xs)

pub small : (xs : List ℕ) → IsSet nat_cmp xs → AllByRecursion (λ x. x < 2 ^ 32) xs → length xs ≤ 2 ^ 32
small xs s h = let k = few_from (2 ^ 32) 0 xs (zero_on xs) s h in omega (arith, k)

joins : (a b : StrSet) → AreWellFormed a b → AreWellFormed (both a b) a
joins Any b h = (tt, tt)
joins (Of xs) Any h = (tt, h.0)
joins (Of xs) (Of ys) h = ((merge_set nat_cmp_total xs ys h.0.0 h.1.0, merge_all nat_cmp_total (λ x. x < 2 ^ 32) xs ys h.0.1 h.1.1), h.0)

itself : (a : StrSet) → is_below a a ≡ true
itself Any = refl
itself (Of xs) = within_itself nat_cmp_total xs

trans : (a b c : StrSet) → is_below a b ≡ true → is_below b c ≡ true → is_below a c ≡ true
trans a b Any p q = refl
trans a Any (Of zs) p q = absurd (false≢true q)
trans Any (Of ys) (Of zs) p q = absurd (false≢true p)
trans (Of xs) (Of ys) (Of zs) p q = within_trans nat_cmp_total xs ys zs p q

left : (a b : StrSet) → is_below a (both a b) ≡ true
left Any b = refl
left (Of xs) Any = refl
left (Of xs) (Of ys) = merge_left nat_cmp_total xs ys

right : (a b : StrSet) → is_below b (both a b) ≡ true
right Any b = refl
right (Of xs) Any = refl
right (Of xs) (Of ys) = merge_right nat_cmp_total xs ys

least : (a b c : StrSet) → is_below a c ≡ true → is_below b c ≡ true → is_below (both a b) c ≡ true
least a b Any p q = refl
least Any b (Of zs) p q = p
least (Of xs) Any (Of zs) p q = q
least (Of xs) (Of ys) (Of zs) p q = merge_least nat_cmp_total xs ys zs p q

sizes : (a b : StrSet) → AreWellFormed a b → is_below a b ≡ true → size_of a ≤ size_of b
sizes Any Any h p = omega arith
sizes (Of xs) Any h p = omega arith
sizes Any (Of ys) h p = absurd (false≢true p)
sizes (Of xs) (Of ys) h p = omega (arith, within_size nat_cmp_total ys xs h.0.0 h.1.0 p)

ranks : (a b : StrSet) → AreWellFormed a b → is_below a b ≡ true → rank_of a ≤ rank_of b
ranks Any Any h p = omega arith
ranks (Of xs) Any h p = omega (arith, small xs h.0.0 h.0.1)
ranks Any (Of ys) h p = absurd (false≢true p)
ranks (Of xs) (Of ys) h p = within_size nat_cmp_total ys xs h.0.0 h.1.0 p

rises : (a b : StrSet) → AreWellFormed a b → is_below a b ≡ true → is_below b a ≡ false → rank_of a < rank_of b
rises Any Any h p n = absurd (false≢true (sym n))
rises (Of xs) Any h p n = omega (arith, small xs h.0.0 h.0.1)
rises Any (Of ys) h p n = absurd (false≢true p)
rises (Of xs) (Of ys) h p n = within_rises nat_cmp_total ys xs h.0.0 h.1.0 p n

pub strings_lattice : IsLattice {V = StrSet} AreWellFormed is_below both size_of rank_of
strings_lattice = record {
  alike_symm = λ a b h. (h.1, h.0);
  alike_trans = λ a b c h k. (h.0, k.1);
  below_refl = λ a h. itself a;
  below_trans = λ a b c h k p q. trans a b c p q;
  join_alike = joins;
  join_left = λ a b h. left a b;
  join_right = λ a b h. right a b;
  join_least = λ a b c h k p q. least a b c p q;
  size_grows = sizes;
  rank_grows = ranks;
  rank_rises = rises;
}

-- the empty set is the least, and joins without a trace
pub none_least : (a : StrSet) → is_below (Of []) a ≡ true
none_least Any = refl
none_least (Of xs) = refl

pub none_left : (a : StrSet) → both (Of []) a ≡ a
none_left Any = refl
none_left (Of xs) = refl

pub none_right : (a : StrSet) → both a (Of []) ≡ a
none_right Any = refl
none_right (Of []) = refl
none_right (Of (x ∷ xs)) = refl

-- only the empty set is below the empty set
pub below_none : (a : StrSet) → is_below a (Of []) ≡ is_none a
below_none Any = refl
below_none (Of []) = refl
below_none (Of (x ∷ xs)) = refl
