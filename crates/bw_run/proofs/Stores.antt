-- Storing, and what it leaves short.
use Rattle.std.proofs.Common.{◌≡◌, ℕ, zero, suc, Bool, true, false, cond, List, [], ◌∷◌, take, Option, Some, None, refl, sym}
use Rattle.std.proofs.Common.{ap, ◌∙◌}
use Rattle.std.specs.Prelude.{if◌then◌else◌, is_some, find}
use Rattle.std.specs.Option.{option_map, option_or}
use denote.Ref.{Bor}
use Rattle.bw_eval.specs.declared.value.Value.{Value as Kept}
use Rattle.bw_eval.specs.View.{value, values}
use Rattle.bw_eval.proofs.Lookups.{beside_values}
use Rattle.bw_lang.specs.Table.Names.{same, beside}
use Rattle.bw_meaning.specs.States.{State}
use Rattle.bw_meaning.specs.Statements.{store}
use Rattle.bw_meaning.specs.Values.{Value, Values, replaced}

-- ---- where there is no such local

kept_by : (b : Bool) (w : List ℕ) (v : Value) (p : List ℕ × Value) (ps : Values) → (is_some (beside w ps) ≡ false → replaced w v ps ≡ ps) →
    is_some (option_map (λ (x : List ℕ × Value). x.1) (cond b (Some p) (find (λ x. same w x.0) ps))) ≡ false →
    (if b then (p.0, v) ∷ ps else p ∷ replaced w v ps) ≡ p ∷ ps
kept_by true w v p ps ih e = cc
kept_by false w v p ps ih e = ap (λ l. p ∷ l) (ih e)

pub none_kept : (w : List ℕ) (v : Value) (l : Values) → is_some (beside w l) ≡ false → replaced w v l ≡ l
none_kept w v [] e = refl
none_kept w v (p ∷ ps) e = kept_by (same w p.0) w v p ps (none_kept w v ps) e

mapped_none : {A B : Type 0} (f : A → B) (o : Option A) → is_some o ≡ false → is_some (option_map f o) ≡ false
mapped_none f None e = refl
mapped_none f (Some x) e = cc

mapped_some : {A B : Type 0} (f : A → B) (o : Option A) → is_some o ≡ true → is_some (option_map f o) ≡ true
mapped_some f None e = cc
mapped_some f (Some x) e = refl

pub store_shared : {A : Type 0} (f : A → Value) (found : Option A) (w : List ℕ) (v : Value) (st : State) → option_map f found ≡ beside w st.locals →
    is_some found ≡ false → record st { shared = replaced w v st.shared } ≡ store w v st
store_shared f found w v st e n =
    let h : is_some (beside w st.locals) ≡ false = ap is_some (sym e) ∙ mapped_none f found n in
    λ i. record st { locals = sym (none_kept w v st.locals h) i; shared = if sym h i then st.shared else replaced w v st.shared }

pub store_local : {A : Type 0} (f : A → Value) (found : Option A) (w : List ℕ) (v : Value) (st : State) → option_map f found ≡ beside w st.locals →
    is_some found ≡ true → record st { locals = replaced w v st.locals } ≡ store w v st
store_local f found w v st e n =
    let h : is_some (beside w st.locals) ≡ true = ap is_some (sym e) ∙ mapped_some f found n in
    λ i. record st { locals = replaced w v st.locals; shared = if sym h i then st.shared else replaced w v st.shared }

-- ---- what the code finds

mapped_twice : {A B C : Type 0} (f : A → B) (g : B → C) (o : Option A) → option_map (λ x. g (f x)) o ≡ option_map g (option_map f o)
mapped_twice f g None = refl
mapped_twice f g (Some x) = refl

-- a value that is found is the one that the meaning finds
pub found_value : (r : Option (Bor Kept)) (w : List ℕ) (l : List (List ℕ × Kept)) → option_map (λ v. v.now) r ≡ beside w l →
    option_map (λ v. value v.now) r ≡ beside w (values l)
found_value r w l e = mapped_twice (λ (v : Bor Kept). v.now) value r ∙ ap (option_map value) e ∙ sym (beside_values w l)

pub variable_local : (r : Option (Bor Kept)) (x : Bor Kept) (w : List ℕ) (l : List (List ℕ × Kept)) (b : Option Value) →
    option_map (λ v. v.now) r ≡ beside w l → r ≡ Some x → Some (value x.now) ≡ option_or (beside w (values l)) b
variable_local r x w l b e is = ap (λ o. option_or o b) (sym (ap (option_map (λ (v : Bor Kept). value v.now)) is) ∙ found_value r w l e)

pub variable_shared : (r q : Option (Bor Kept)) (w : List ℕ) (l s : List (List ℕ × Kept)) → option_map (λ v. v.now) r ≡ beside w l → r ≡ None →
    option_map (λ v. v.now) q ≡ beside w s →
    option_map (λ v. value v.now) q ≡ option_or (beside w (values l)) (beside w (values s))
variable_shared r q w l s e is f =
    found_value q w s f ∙ ap (λ o. option_or o (beside w (values s))) (sym (ap (option_map (λ (v : Bor Kept). value v.now)) is) ∙ found_value r w l e)

-- the first values are the first ones of the meaning
pub values_take : (n : ℕ) (xs : List (List ℕ × Kept)) → values (take n xs) ≡ take n (values xs)
values_take zero xs = refl
values_take (suc n) [] = refl
values_take (suc n) (x ∷ xs) = ap (λ l. (x.0, value x.1) ∷ l) (values_take n xs)
