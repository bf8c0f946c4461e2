-- The locals in scope, the newest first.
use Rattle.std.proofs.Common.{◌≡◌, ℕ, ◌-◌, Bool, true, false, cond, List, [], ◌∷◌, ◌++◌, map, length, take, drop, Option, Some, refl, ap, sym, ◌∙◌, arith}
use Rattle.std.proofs.Common.{length-drop}
use Rattle.std.specs.Prelude.{reverse, find, option_map}
use Rattle.std.proofs.lemmas.List.{reverse-append, length-reverse, take-append-drop, take-map, map-append}
use Rattle.std.proofs.Math.Seq.{drop-append_seam}
use Rattle.bw_lang.specs.declared.stmt.Kind.{Kind}
use Rattle.bw_lang.specs.Table.Names.{same}
use Rattle.bw_types.specs.declared.locals.Local.{Local}
use Rattle.bw_lang.specs.Table.Names.{beside}
use Rattle.bw_types.specs.Scopes.{Scope}

abbrev pub named : Local → List ℕ × Kind
named x = (x.name, x.kind)

pub beside-named : (w : List ℕ) (xs : List Local) → beside w (map named xs) ≡ option_map (λ (x : Local). x.kind) (find (λ x. same w x.name) xs)
beside-named w [] = refl
beside-named w (x ∷ xs) = by_test (same w x.name) (beside-named w xs)
  where
    by_test : (b : Bool) → beside w (map named xs) ≡ option_map (λ (x : Local). x.kind) (find (λ x. same w x.name) xs)
        → option_map (λ (p : List ℕ × Kind). p.1) (cond b (Some (named x)) (find (λ p. same w p.0) (map named xs))) ≡ option_map (λ (x : Local). x.kind)
        (cond b (Some x) (find (λ x. same w x.name) xs))
    by_test true ih = refl
    by_test false ih = ih

map-reverse : {A B : Type 0} (f : A → B) (xs : List A) → map f (reverse xs) ≡ reverse (map f xs)
map-reverse f [] = refl
map-reverse f (x ∷ xs) =
    ap (map f) (reverse-append (x ∷ []) xs) ∙ map-append f (reverse xs) (x ∷ []) ∙ ap (λ l. l ++ f x ∷ []) (map-reverse f xs)
    ∙ sym (reverse-append (f x ∷ []) (map f xs))

-- the kind of the newest local of that name
pub newest : (w : List ℕ) (xs : List Local) (scope : Scope) (found : Option Local) → found ≡ find (λ x. same w x.name) (reverse xs)
    → reverse (map named xs) ≡ scope.locals
    → option_map (λ (x : Local). x.kind) found ≡ beside w scope.locals
newest w xs scope found f l =
    ap (option_map (λ (x : Local). x.kind)) f ∙ sym (beside-named w (reverse xs)) ∙ ap (beside w) (map-reverse named xs ∙ l)

reverse_take : {A : Type 0} (n : ℕ) (xs : List A) → reverse (take n xs) ≡ drop (length (reverse xs) - n) (reverse xs)
reverse_take {A = A} n xs =
    let e : reverse xs ≡ reverse (drop n xs) ++ reverse (take n xs) = ap reverse (sym (take-append-drop n xs)) ∙ reverse-append (take n xs) (drop n xs) in
    let l : length (reverse xs) - n ≡ length (reverse (drop n xs)) = omega (arith, length-reverse xs, length-reverse (drop n xs), length-drop n xs) in
    sym (ap (λ k. drop k (reverse xs)) l ∙ ap (drop (length (reverse (drop n xs)))) e ∙ drop-append_seam (reverse (drop n xs)) (reverse (take n xs)))

-- the oldest locals
pub oldest : (n : ℕ) (xs : List Local) → reverse (map named (take n xs)) ≡ drop (length (reverse (map named xs)) - n) (reverse (map named xs))
oldest n xs = ap reverse (sym (take-map named n xs)) ∙ reverse_take n (map named xs)
