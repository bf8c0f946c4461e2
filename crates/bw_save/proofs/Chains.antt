-- What was written, one after another.
use Rattle.std.proofs.Common.{◌≡◌, ◌<◌, ℕ, ◌+◌, List, [], ◌∷◌, ◌++◌, length, map, take, get_or, All, refl, sym, ap, subst, ◌∙◌, append_assoc}
use Rattle.std.specs.List.{flat_map, AllByRecursion}
use Rattle.std.proofs.lemmas.List.{append-nil, take_more}
use Rattle.std.proofs.lemmas.Grind.{flat_map-append}
use Rattle.std.proofs.lemmas.List.Concat.{flat_map-cons}
use Rattle.std.proofs.lemmas.List.Elements.{All-from_recursion, recursion_from_All}
use Rattle.bw_eval.specs.declared.value.Value.{Value}
use Rattle.bw_eval.specs.declared.values.Variable.{Variable}
use Rattle.bw_saved.specs.Values.Layout.{value, variables}
use Rattle.bw_save.specs.Fitting.{FitsValue}

abbrev Bytes : Type 0
Bytes = List ℕ

pub two : (o p q a b : Bytes) → p ≡ o ++ a → q ≡ p ++ b → q ≡ o ++ (a ++ b)
two o p q a b e f = f ∙ ap (λ (x : Bytes). x ++ b) e ∙ append_assoc o a b

pub four : (o o1 o2 o3 o4 a b c d : Bytes) → o1 ≡ o ++ a → o2 ≡ o1 ++ b → o3 ≡ o2 ++ c → o4 ≡ o3 ++ d → o4 ≡ o ++ (a ++ (b ++ (c ++ d)))
four o o1 o2 o3 o4 a b c d e1 e2 e3 e4 = two o o1 o4 a (b ++ (c ++ d)) e1 (two o1 o2 o4 b (c ++ d) e2 (two o2 o3 o4 c d e3 e4))

pub five : (o o1 o2 o3 o4 o5 a b c d e : Bytes) → o1 ≡ o ++ a → o2 ≡ o1 ++ b → o3 ≡ o2 ++ c → o4 ≡ o3 ++ d → o5 ≡ o4 ++ e →
    o5 ≡ o ++ (a ++ (b ++ (c ++ (d ++ e))))
five o o1 o2 o3 o4 o5 a b c d e e1 e2 e3 e4 e5 = two o o1 o5 a (b ++ (c ++ (d ++ e))) e1 (four o1 o2 o3 o4 o5 b c d e e2 e3 e4 e5)

-- variables as pairs
pair : Variable → List ℕ × Value
pair v = (v.name, v.value)

fit_by_recursion : (xs : List Variable) → AllByRecursion (λ (y : List ℕ × Value). FitsValue y.1) (map (λ (v : Variable). (v.name, v.value)) xs) →
    AllByRecursion (λ (v : Variable). FitsValue v.value) xs
fit_by_recursion [] h = tt
fit_by_recursion (x ∷ xs) h = (h.0, fit_by_recursion xs h.1)

pub all_fit : (xs : List Variable) (ys : List (List ℕ × Value)) → map (λ (v : Variable). (v.name, v.value)) xs ≡ ys → All (λ y. FitsValue y.1) ys →
    All (λ v. FitsValue v.value) xs
all_fit xs ys e h =
    All-from_recursion (λ (v : Variable). FitsValue v.value) xs
    (fit_by_recursion xs (recursion_from_All (λ (y : List ℕ × Value). FitsValue y.1) (map (λ (v : Variable). (v.name, v.value)) xs)
    (subst (λ (zs : List (List ℕ × Value)). All (λ y. FitsValue y.1) zs) (sym e) h)))

mapped : (xs : List Variable) → flat_map (λ (v : Variable). value v.value) xs ≡ variables (map (λ (v : Variable). (v.name, v.value)) xs)
mapped [] = refl
mapped (x ∷ xs) =
    flat_map-cons (λ (v : Variable). value v.value) x xs ∙ ap (λ (b : Bytes). value x.value ++ b) (mapped xs)
    ∙ sym (flat_map-cons (λ (y : List ℕ × Value). value y.1) (x.name, x.value) (map (λ (v : Variable). (v.name, v.value)) xs))

pub all_bytes : (xs : List Variable) (ys : List (List ℕ × Value)) → map (λ (v : Variable). (v.name, v.value)) xs ≡ ys →
    flat_map (λ (v : Variable). value v.value) xs ≡ variables ys
all_bytes xs ys e = mapped xs ∙ ap variables e

-- one more of a list
pub one_more : {X : Type 0} (f : X → Bytes) (xs : List X) (i : ℕ) (d x : X) (o p q : Bytes) → i < length xs → x ≡ get_or xs i d →
    p ≡ o ++ flat_map f (take i xs) → q ≡ p ++ f x → q ≡ o ++ flat_map f (take (i + 1) xs)
one_more {X} f xs i d x o p q lt is so_far e =
    let split : take (i + 1) xs ≡ take i xs ++ x ∷ [] = take_more xs i d lt ∙ ap (λ (y : X). take i xs ++ y ∷ []) (sym is) in
    let bytes : flat_map f (take (i + 1) xs) ≡ flat_map f (take i xs) ++ f x =
    ap (flat_map f) split ∙ flat_map-append f (take i xs) (x ∷ [])
    ∙ ap (λ (b : Bytes). flat_map f (take i xs) ++ b) (flat_map-cons f x [] ∙ append-nil (f x)) in
    two o p q (flat_map f (take i xs)) (f x) so_far e ∙ ap (λ (b : Bytes). o ++ b) (sym bytes)
