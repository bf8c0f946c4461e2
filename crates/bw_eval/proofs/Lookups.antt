-- Looking names up.
use Rattle.std.proofs.Common.{◌≡◌, ℕ, zero, suc, ◌+◌, ◌<◌, ◌≤◌, Bool, true, false, cond, subst, arith, List, [], ◌∷◌, length, get_or, take, map, Option, Some}
use Rattle.std.proofs.Common.{refl, ap, sym, ◌∙◌}
use Rattle.std.proofs.lemmas.List.Sums.{sum_by-cons}
use Rattle.std.specs.Prelude.{find, option_map}
use Rattle.bw_lang.specs.declared.service.Template.{Template}
use Rattle.bw_lang.specs.Table.Names.{same, beside}
use Rattle.bw_eval.specs.declared.value.Value.{Value}
use Rattle.bw_eval.specs.declared.values.Variable.{Variable}
use Rattle.bw_eval.specs.Sound.{IsSound, AreSound}
use Rattle.bw_meaning.specs.Values as meaning
use Rattle.bw_meaning.specs.Values.{weight, weights}
use Rattle.bw_eval.specs.View.{value, values, named}

-- a variable as a pair
abbrev pub pair : Variable → List ℕ × Value
pair x = (x.name, x.value)

pub beside-pair : (w : List ℕ) (xs : List Variable) → beside w (map pair xs) ≡ option_map (λ (x : Variable). x.value) (find (λ x. same w x.name) xs)
beside-pair w [] = refl
beside-pair w (x ∷ xs) = by_test (same w x.name) (beside-pair w xs)
  where
    by_test : (b : Bool) → beside w (map pair xs) ≡ option_map (λ (x : Variable). x.value) (find (λ x. same w x.name) xs)
        → option_map (λ (p : List ℕ × Value). p.1) (cond b (Some (pair x)) (find (λ p. same w p.0) (map pair xs))) ≡ option_map
        (λ (x : Variable). x.value) (cond b (Some x) (find (λ x. same w x.name) xs))
    by_test true ih = refl
    by_test false ih = ih

pub first_named : (v w : List ℕ) (xs : List Variable) (l : List (List ℕ × Value)) (found : Option Variable) → found ≡ find (λ x. same v x.name) xs →
    v ≡ w → map pair xs ≡ l
    → option_map (λ (x : Variable). x.value) found ≡ beside w l
first_named v w xs l found f e m = ap (option_map (λ (x : Variable). x.value)) f ∙ sym (beside-pair v xs) ∙ ap (beside v) m ∙ ap (λ n. beside n l) e

-- what stands beside a name is what the meaning finds beside it
pub beside_values : (w : List ℕ) (xs : List (List ℕ × Value)) → beside w (values xs) ≡ option_map value (beside w xs)
beside_values w [] = refl
beside_values w (x ∷ xs) = by_test (same w x.0) (beside_values w xs)
  where
    by_test : (b : Bool) → beside w (values xs) ≡ option_map value (beside w xs)
        → option_map (λ p. p.1) (cond b (Some (named x)) (find (λ p. same w p.0) (values xs))) ≡ option_map value
        (option_map (λ (p : List ℕ × Value). p.1) (cond b (Some x) (find (λ p. same w p.0) xs)))
    by_test true ih = refl
    by_test false ih = ih

sound_by_test : (ts : List Template) (b : Bool) (w : List ℕ) (x : List ℕ × Value) (xs : List (List ℕ × Value)) (v : Value) → IsSound ts x.1 →
    (beside w xs ≡ Some v → IsSound ts v) →
    option_map (λ (p : List ℕ × Value). p.1) (cond b (Some x) (find (λ p. same w p.0) xs)) ≡ Some v → IsSound ts v
sound_by_test ts true w x xs v h ih e = let p : x.1 ≡ v = cc in subst (IsSound ts) p h
sound_by_test ts false w x xs v h ih e = ih e

-- what is found among sound values is sound
pub beside_sound : (ts : List Template) (w : List ℕ) (xs : List (List ℕ × Value)) (v : Value) → AreSound ts xs → beside w xs ≡ Some v → IsSound ts v
beside_sound ts w [] v a e = cc
beside_sound ts w (x ∷ xs) v a e = sound_by_test ts (same w x.0) w x xs v (a 0 x (omega arith))
    (beside_sound ts w xs v (λ k d lt. a (suc k) d (omega arith))) e

-- what one variable weighs
abbrev its_weight : List ℕ × meaning.Value → ℕ
its_weight p = weight p.1

within_first : (a b c n w : ℕ) → n ≡ 0 → w ≡ b + c → a ≡ b → n + a ≤ w
within_first a b c n w none whole e = omega (arith, none, whole, e)

within_more : (a b c d n w : ℕ) → n ≡ a + b → w ≡ a + d → b + c ≤ d → n + c ≤ w
within_more a b c d n w front whole h = omega (arith, front, whole, h)

-- the weight of what stands in front of a variable and its own are within that of all
pub weights_reach : (xs : List Variable) (i : ℕ) (x : Variable) → x ≡ get_or xs i x → i < length xs
    → weights (values (map pair (take i xs))) + weight (value x.value) ≤ weights (values (map pair xs))
weights_reach [] i x e lt = omega (arith, lt)
weights_reach (y ∷ ys) zero x e lt =
    within_first (weight (value x.value)) (weight (value y.value)) (weights (values (map pair ys))) (weights []) (weights (values (map pair (y ∷ ys))))
    refl (sum_by-cons its_weight (named (pair y)) (values (map pair ys))) (ap (λ (z : Variable). weight (value z.value)) e)
weights_reach (y ∷ ys) (suc i) x e lt =
    within_more (weight (value y.value)) (weights (values (map pair (take i ys)))) (weight (value x.value)) (weights (values (map pair ys)))
    (weights (values (map pair (y ∷ take i ys)))) (weights (values (map pair (y ∷ ys))))
    (sum_by-cons its_weight (named (pair y)) (values (map pair (take i ys)))) (sum_by-cons its_weight (named (pair y)) (values (map pair ys)))
    (weights_reach ys i x e (omega (arith, lt)))
