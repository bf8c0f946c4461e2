-- Names with values are maps.
use Rattle.std.proofs.Common.{◌≡◌, ℕ, Bool, true, false, cond, List, [], ◌∷◌, ◌++◌, Option, Some, None, refl, sym, ap, ◌∙◌}
use Rattle.std.specs.Prelude.{if◌then◌else◌, find, not, IsPermutation}
use Rattle.std.specs.List.{list_any, IsDistinct}
use Rattle.std.specs.Option.{option_map, option_or}
use Rattle.std.specs.Map.{lookup}
use Rattle.std.proofs.lemmas.Cmp.{nat_list_eq_equiv}
use Rattle.std.proofs.lemmas.List.Sorted.{Contains-permutation, IsPermutation-map, IsPermutation-sym, sum_by-IsPermutation}
use Rattle.std.proofs.lemmas.Map.Keys.{IsDistinct-IsPermutation}
use Rattle.std.proofs.lemmas.Map.Views.{Contains-from_lookup, lookup-from_Contains}
use Rattle.bw_lang.proofs.SameNames.{same_is}
use Rattle.bw_lang.specs.Table.Names.{same, beside}
use Rattle.bw_meaning.specs.Values.{Value, Values, names_of, weight, replaced, without}
use Rattle.bw_meaning.specs.NameLaws.{OrdersAgree, OrdersWeighTheSame, StoringIsOfOneName, DeclaringAddsOneName, LeavingTakesNames}

-- ---- the order of names

picked : (b : Bool) (p : List ℕ × Value) (o : Option (List ℕ × Value)) (r : Option Value) →
    option_map (λ x. x.1) o ≡ r → option_map (λ x. x.1) (cond b (Some p) o) ≡ cond b (Some p.1) r
picked true p o r e = refl
picked false p o r e = e

looked : (w : List ℕ) (values : Values) → beside w values ≡ lookup (same w) values
looked w [] = refl
looked w (p ∷ ps) = picked (same w p.0) p (find (λ x. same w x.0) ps) (lookup (same w) ps) (looked w ps)

-- what a name has in one order it has in another
carried : (a b : Values) (w : List ℕ) (v : Value) → IsDistinct same (names_of b) → IsPermutation a b →
    beside w a ≡ Some v → beside w b ≡ Some v
carried a b w v d p e =
    looked w b ∙ lookup-from_Contains nat_list_eq_equiv w v b d (Contains-permutation a b (w, v) p (Contains-from_lookup same_is w v a (sym (looked w a) ∙ e)))

either_way : (o p : Option Value) → ((v : Value) → o ≡ Some v → p ≡ Some v) → ((v : Value) → p ≡ Some v → o ≡ Some v) → o ≡ p
either_way None None f g = refl
either_way None (Some v) f g = g v refl
either_way (Some v) p f g = sym (f v refl)

pub orders_agree : OrdersAgree
orders_agree a b d p w =
    let other = IsDistinct-IsPermutation same nat_list_eq_equiv.symm (names_of a) (names_of b) (IsPermutation-map (λ x. x.0) a b p) d in
    either_way (beside w a) (beside w b) (λ v e. carried a b w v other p e) (λ v e. carried b a w v d (IsPermutation-sym a b p) e)

pub orders_weigh_the_same : OrdersWeighTheSame
orders_weigh_the_same a b p = sum_by-IsPermutation (λ x. weight x.1) a b p

-- ---- what is done to names with values

-- the first pair has the name x by a, and the name w by b; c says whether x is w
stored : (a b c : Bool) (v u : Value) (m n o : Option (List ℕ × Value)) (x : List ℕ) →
    (c ≡ true → a ≡ b) → (c ≡ false → a ≡ true → b ≡ true → ⊥) →
    option_map (λ x. x.1) m ≡ (if c then option_map (λ old. v) (option_map (λ x. x.1) o) else option_map (λ x. x.1) n) →
    (if b then option_map (λ x. x.1) (cond a (Some (x, v)) n) else option_map (λ x. x.1) (cond a (Some (x, u)) m))
    ≡ (if c then option_map (λ old. v) (option_map (λ x. x.1) (cond b (Some (x, u)) o)) else option_map (λ x. x.1) (cond a (Some (x, u)) n))
stored true true true v u m n o x alike apart e = refl
stored true true false v u m n o x alike apart e = absurd (apart refl refl refl)
stored true false true v u m n o x alike apart e = let h = alike refl in cc
stored true false false v u m n o x alike apart e = refl
stored false true true v u m n o x alike apart e = let h = alike refl in cc
stored false true false v u m n o x alike apart e = refl
stored false false c v u m n o x alike apart e = e

beside_if : (b : Bool) (x : List ℕ) (ps qs : Values) → beside x (if b then ps else qs) ≡ (if b then beside x ps else beside x qs)
beside_if true x ps qs = refl
beside_if false x ps qs = refl

either_side : (c : Bool) (o : Option Value) → o ≡ (if c then o else o)
either_side true o = refl
either_side false o = refl

pub storing_is_of_one_name : StoringIsOfOneName
storing_is_of_one_name w x v [] = either_side (same x w) None
storing_is_of_one_name w x v (p ∷ ps) =
    let one = nat_list_eq_equiv in
    beside_if (same w p.0) x ((p.0, v) ∷ ps) (p ∷ replaced w v ps)
    ∙ stored (same x p.0) (same w p.0) (same x w) v p.1 (find (λ y. same x y.0) (replaced w v ps)) (find (λ y. same x y.0) ps) (find (λ y. same w y.0) ps) p.0
    (λ e. ap (λ y. same y p.0) (same_is x w e))
    (λ n a b. let h = one.symm w x ∙ one.congr x p.0 w a in let g = one.symm p.0 w ∙ b in let k = one.symm x w in cc)
    (storing_is_of_one_name w x v ps)

added : (b c : Bool) (v : Value) (p : List ℕ × Value) (m n : Option (List ℕ × Value)) (r : Option Value) →
    option_map (λ x. x.1) m ≡ option_or (option_map (λ x. x.1) n) r →
    option_map (λ x. x.1) (cond b (Some p) m) ≡ option_or (option_map (λ x. x.1) (cond b (Some p) n)) r
added true c v p m n r e = refl
added false c v p m n r e = e

only : (b : Bool) (w : List ℕ) (v : Value) → option_map (λ (x : List ℕ × Value). x.1) (cond b (Some (w, v)) None) ≡ (if b then Some v else None)
only true w v = refl
only false w v = refl

pub declaring_adds_one_name : DeclaringAddsOneName
declaring_adds_one_name w x v [] = only (same x w) w v
declaring_adds_one_name w x v (p ∷ ps) =
    added (same x p.0) (same x w) v p (find (λ y. same x y.0) (ps ++ (w, v) ∷ [])) (find (λ y. same x y.0) ps) (if same x w then Some v else None)
    (declaring_adds_one_name w x v ps)

-- the first pair is one of the names by a, and has the name x by b; c says whether x is one of them
left : (a b c : Bool) (p : List ℕ × Value) (x : List ℕ) (rest ps : Values) → (b ≡ true → a ≡ c) → same x p.0 ≡ b →
    beside x rest ≡ (if c then None else beside x ps) →
    beside x (cond (not a) (p ∷ rest) rest) ≡ (if c then None else option_map (λ x. x.1) (cond b (Some p) (find (λ y. same x y.0) ps)))
left true true true p x rest ps alike h e = e
left true true false p x rest ps alike h e = let f = alike refl in cc
left true false c p x rest ps alike h e = e
left false true true p x rest ps alike h e = let f = alike refl in cc
left false true false p x rest ps alike h e = ap (λ b. option_map (λ x. x.1) (cond b (Some p) (find (λ y. same x y.0) rest))) h
left false false c p x rest ps alike h e = ap (λ b. option_map (λ x. x.1) (cond b (Some p) (find (λ y. same x y.0) rest))) h ∙ e

pub leaving_takes_names : LeavingTakesNames
leaving_takes_names names x [] = either_side (list_any (same x) names) None
leaving_takes_names names x (p ∷ ps) =
    left (list_any (same p.0) names) (same x p.0) (list_any (same x) names) p x (without names ps) ps
    (λ e. ap (λ y. list_any (same y) names) (sym (same_is x p.0 e))) refl (leaving_takes_names names x ps)
