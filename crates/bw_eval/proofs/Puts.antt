-- A value put in the place of another.
use Rattle.std.proofs.Common.{◌≡◌, ℕ, zero, suc, ◌+◌, ◌<◌, ◌≤◌, Bool, true, false, cond, arith, List, [], ◌∷◌, map, length, Some, None, refl, ap}
use Rattle.std.proofs.Common.{◌∙◌, get_or, slice_set}
use Rattle.std.specs.Prelude.{not, nat_lt, if◌then◌else◌, position}
use Rattle.std.specs.List.{position_or_len}
use Rattle.std.proofs.lemmas.Bool.{ltb-true, lt-ltb}
use Rattle.std.proofs.lemmas.List.Elements.{All-cons, All-head, All-tail}
use Rattle.bw_lang.specs.declared.service.Template.{Template}
use Rattle.bw_lang.specs.Table.Names.{same}
use Rattle.bw_meaning.specs.Values as meaning
use Rattle.bw_eval.specs.declared.value.Value.{Value}
use Rattle.bw_eval.specs.declared.values.Variable.{Variable}
use Rattle.bw_eval.specs.Sound.{IsSound, AreSound}
use Rattle.bw_eval.specs.View.{value, values}
use Rattle.bw_eval.proofs.Lookups.{pair}

-- the value in place of that of the first of this name
abbrev pub put : List ℕ → Value → List (List ℕ × Value) → List (List ℕ × Value)
put w v [] = []
put w v (x ∷ xs) = if same w x.0 then (x.0, v) ∷ xs else x ∷ put w v xs

-- so it is in the meaning
pub put_values : (w : List ℕ) (v : Value) (xs : List (List ℕ × Value)) → values (put w v xs) ≡ meaning.replaced w (value v) (values xs)
put_values w v [] = refl
put_values w v (x ∷ xs) = by_test (same w x.0) (put_values w v xs)
  where
    by_test : (b : Bool) → values (put w v xs) ≡ meaning.replaced w (value v) (values xs)
        → values (if b then (x.0, v) ∷ xs else x ∷ put w v xs) ≡
        (if b then (x.0, value v) ∷ values xs else (x.0, value x.1) ∷ meaning.replaced w (value v) (values xs))
    by_test true ih = refl
    by_test false ih = ap (λ l. (x.0, value x.1) ∷ l) ih

-- and sound values stay sound
pub put_sound : (ts : List Template) (w : List ℕ) (v : Value) (xs : List (List ℕ × Value)) → AreSound ts xs → IsSound ts v → AreSound ts (put w v xs)
put_sound ts w v [] h s = h
put_sound ts w v (x ∷ xs) h s = by_test (same w x.0) (put_sound ts w v xs (All-tail (λ y. IsSound ts y.1) x xs h) s)
  where
    by_test : (b : Bool) → AreSound ts (put w v xs) → AreSound ts (if b then (x.0, v) ∷ xs else x ∷ put w v xs)
    by_test true ih = All-cons (λ y. IsSound ts y.1) (x.0, v) xs s (All-tail (λ y. IsSound ts y.1) x xs h)
    by_test false ih = All-cons (λ y. IsSound ts y.1) x (put w v xs) (All-head (λ y. IsSound ts y.1) x xs h) ih

abbrev at : List ℕ → List Variable → ℕ
at w xs = position_or_len (λ (x : Variable). same w x.name) xs

set_put : (w : List ℕ) (v : Value) (xs : List Variable) (i : ℕ) (y z : Variable) → at w xs ≡ i → i < length xs → z ≡ get_or xs i z →
    y.name ≡ z.name → y.value ≡ v → map pair (slice_set xs i y) ≡ put w v (map pair xs)
set_put w v [] i y z e lt ez en ev = absurd (omega arith)
set_put w v (x ∷ xs) i y z e lt ez en ev = by_test (λ j. set_put w v xs j y z) (same w x.name) i e lt ez
  where
    by_test : ((j : ℕ) → at w xs ≡ j → j < length xs → z ≡ get_or xs j z → y.name ≡ z.name → y.value ≡ v →
        map pair (slice_set xs j y) ≡ put w v (map pair xs)) → (b : Bool) (i : ℕ) → cond (not b) (1 + at w xs) 0 ≡ i → i < length (x ∷ xs) →
        z ≡ get_or (x ∷ xs) i z → map pair (slice_set (x ∷ xs) i y) ≡ (if b then (x.name, v) ∷ map pair xs else pair x ∷ put w v (map pair xs))
    by_test ih true zero e lt ez = λ j. ((en ∙ ap (λ (u : Variable). u.name) ez) j, ev j) ∷ map pair xs
    by_test ih true (suc i) e lt ez = absurd (omega arith)
    by_test ih false zero e lt ez = absurd (omega arith)
    by_test ih false (suc i) e lt ez = ap (λ l. pair x ∷ l) (ih i (omega arith) (omega arith) ez en ev)

none_put : (w : List ℕ) (v : Value) (xs : List Variable) → length xs ≤ at w xs → map pair xs ≡ put w v (map pair xs)
none_put w v [] le = refl
none_put w v (x ∷ xs) le = by_test (none_put w v xs) (same w x.name) le
  where
    by_test : (length xs ≤ at w xs → map pair xs ≡ put w v (map pair xs)) → (b : Bool) → length (x ∷ xs) ≤ cond (not b) (1 + at w xs) 0 →
        map pair (x ∷ xs) ≡ (if b then (x.name, v) ∷ map pair xs else pair x ∷ put w v (map pair xs))
    by_test ih true le = absurd (omega arith)
    by_test ih false le = ap (λ l. pair x ∷ l) (ih (omega arith))

pub some_place : (n m p : ℕ) (b : Bool) → nat_lt n m ≡ b → cond b (Some n) None ≡ Some p → (n ≡ p) × (n < m)
some_place n m p true e h = (cc, ltb-true n m e)
some_place n m p false e h = absurd (cc)

pub no_place : (n m : ℕ) (b : Bool) → nat_lt n m ≡ b → cond b (Some n) None ≡ None → m ≤ n
no_place n m true e h = absurd (cc)
no_place n m false e h = below (λ lt. let f = lt-ltb n m lt in cc)
  where
    below : (n < m → ⊥) → m ≤ n
    below f = omega arith

pub put_there : (w : List ℕ) (v : Value) (xs : List Variable) (i : ℕ) (y z : Variable) → position (λ (x : Variable). same w x.name) xs ≡ Some i →
    z ≡ get_or xs i z → y.name ≡ z.name → y.value ≡ v → map pair (slice_set xs i y) ≡ put w v (map pair xs)
put_there w v xs i y z e ez en ev =
    let h = some_place (at w xs) (length xs) i (nat_lt (at w xs) (length xs)) refl e in
    let a = h.0 in let b = h.1 in
    set_put w v xs i y z h.0 (omega arith) ez en ev

pub put_nowhere : (w : List ℕ) (v : Value) (xs : List Variable) → position (λ (x : Variable). same w x.name) xs ≡ None → map pair xs ≡ put w v (map pair xs)
put_nowhere w v xs e = none_put w v xs (no_place (at w xs) (length xs) (nat_lt (at w xs) (length xs)) refl e)
