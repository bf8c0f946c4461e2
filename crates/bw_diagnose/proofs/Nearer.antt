-- The nearest of some names and then of others.
use Rattle.std.proofs.Common.{◌≡◌, ◌<◌, ℕ, ◌+◌, List, [], ◌∷◌, ◌++◌, length, get_or, drop, Option, refl, ap, sym, ◌∙◌}
use Rattle.std.proofs.lemmas.List.{at_drop_more}
use Rattle.bw_near.specs.Near.{nearer, nearest_behind}

nearest_append : (word : List ℕ) (best : Option (List ℕ)) (xs ys : List (List ℕ))
    → nearest_behind word best (xs ++ ys) ≡ nearest_behind word (nearest_behind word best xs) ys
nearest_append word best [] ys = refl
nearest_append word best (x ∷ xs) ys = nearest_append word (nearer word best x) xs ys

-- o is the nearest of the first names, and then come the others
pub nearest_more : (word : List ℕ) (best o : Option (List ℕ)) (xs ys all : List (List ℕ)) → o ≡ nearest_behind word best xs → all ≡ xs ++ ys
    → nearest_behind word o ys ≡ nearest_behind word best all
nearest_more word best o xs ys all e f =
    ap (λ x. nearest_behind word x ys) e ∙ sym (nearest_append word best xs ys) ∙ ap (nearest_behind word best) (sym f)

pub word_step : (xs : List (List ℕ)) (i : ℕ) (x : List ℕ) → x ≡ get_or xs i x → i < length xs → drop i xs ≡ (x ∷ []) ++ drop (i + 1) xs
word_step xs i x e h = at_drop_more (λ l. l) xs i x h ∙ ap (λ y. y ∷ drop (i + 1) xs) (sym e)
