-- Values by their names, where values are stored, added and dropped.
use Rattle.std.proofs.Common.{map, ◌≡◌, ℕ, Bool, true, false, cond, List, [], ◌∷◌, ◌++◌, Option, Some, None, refl, sym, ap, ◌∙◌}
use Rattle.std.specs.Prelude.{◌||◌, not, if◌then◌else◌, option_map, find, is_some}
use Rattle.std.specs.List.{list_any}
use Rattle.std.specs.Option.{option_or}
use Rattle.std.proofs.lemmas.Bool.{false≢true}
use Rattle.std.proofs.lemmas.List.Folds.{list_any-append}
use Rattle.bw_lang.specs.Service.Code.{Code, done, declare, assign, if_then, if_else, while_loop, block, for_each, show, exit}
use Rattle.bw_lang.specs.Table.Names.{same, beside}
use Rattle.bw_meaning.specs.Statements.{declared}
use Rattle.bw_meaning.specs.Values.{Value, Values, replaced, without}
use Rattle.bw_types.specs.Scopes.{is_among}
use Rattle.bw_lang.proofs.SameNames.{same_is, same_sym}
use Rattle.bw_cover.specs.Facts.{Apart, after}
use Rattle.std.proofs.Math.Bool.{or-false, or_assoc}

-- ---- what stands beside a name

pub beside-cons : {A : Type 0} (w v : List ℕ) (x : A) (l : List (List ℕ × A)) → beside w ((v, x) ∷ l) ≡ (if same w v then Some x else beside w l)
beside-cons {A} w v x l = by_test (same w v)
  where
    by_test : (b : Bool) → option_map (λ (y : List ℕ × A). y.1) (cond b (Some (v, x)) (find (λ y. same w y.0) l)) ≡ (if b then Some x else beside w l)
    by_test true = refl
    by_test false = refl

-- a value that is stored
pub beside-replaced : (w : List ℕ) (v : Value) (l : Values) (y : List ℕ)
    → beside y (replaced w v l) ≡ (if same w y then option_map (λ x. v) (beside y l) else beside y l)
beside-replaced w v [] y = by_test (same w y)
  where
    by_test : (b : Bool) → None ≡ (if b then option_map (λ (x : Value). v) None else None)
    by_test true = refl
    by_test false = refl
beside-replaced w v ((u, x) ∷ l) y = at (same w u) refl (beside-replaced w v l y)
  where
    R : Option Value → Option Value
    R o = if same w y then option_map (λ z. v) o else o

    there : (b c : Bool) → b ≡ c
        → (if b then Some v else beside y l) ≡
        (if c then option_map (λ (z : Value). v) (if b then Some x else beside y l) else (if b then Some x else beside y l))
    there true true e = refl
    there true false e = absurd (false≢true (sym e))
    there false true e = absurd (false≢true e)
    there false false e = refl

    other : (b c : Bool) (o p : Option Value) → (b ≡ true → c ≡ false) → o ≡ (if c then option_map (λ (z : Value). v) p else p)
        → (if b then Some x else o) ≡ (if c then option_map (λ (z : Value). v) (if b then Some x else p) else (if b then Some x else p))
    other true true o p h e = absurd (false≢true (sym (h refl)))
    other true false o p h e = refl
    other false c o p h e = e

    at : (b : Bool) → same w u ≡ b → beside y (replaced w v l) ≡ (if same w y then option_map (λ (z : Value). v) (beside y l) else beside y l)
        → beside y (if b then (u, v) ∷ l else (u, x) ∷ replaced w v l) ≡
        (if same w y then option_map (λ (z : Value). v) (beside y ((u, x) ∷ l)) else beside y ((u, x) ∷ l))
    at true e ih =
        beside-cons y u v l ∙ there (same y u) (same w y) (ap (same y) (sym (same_is w u e)) ∙ same_sym y w)
        ∙ ap (λ o. if same w y then option_map (λ (z : Value). v) o else o) (sym (beside-cons y u x l))
    at false e ih =
        beside-cons y u x (replaced w v l)
        ∙ other (same y u) (same w y) (beside y (replaced w v l)) (beside y l) (λ h. ap (same w) (same_is y u h) ∙ e) ih
        ∙ ap (λ o. if same w y then option_map (λ (z : Value). v) o else o) (sym (beside-cons y u x l))

-- a value that is added
pub beside-added : (w : List ℕ) (v : Value) (l : Values) (y : List ℕ)
    → beside y (l ++ (w, v) ∷ []) ≡ option_or (beside y l) (if same y w then Some v else None)
beside-added w v [] y = beside-cons y w v []
beside-added w v ((u, x) ∷ l) y =
    beside-cons y u x (l ++ (w, v) ∷ []) ∙ by_test (same y u) (beside-added w v l y)
    ∙ ap (λ o. option_or o (if same y w then Some v else None)) (sym (beside-cons y u x l))
  where
    by_test : (b : Bool) → beside y (l ++ (w, v) ∷ []) ≡ option_or (beside y l) (if same y w then Some v else None)
        → (if b then Some x else beside y (l ++ (w, v) ∷ [])) ≡ option_or (if b then Some x else beside y l) (if same y w then Some v else None)
    by_test true ih = refl
    by_test false ih = ih

-- values that are dropped
pub beside-without : (names : List (List ℕ)) (l : Values) (y : List ℕ) → beside y (without names l) ≡ (if is_among y names then None else beside y l)
beside-without names [] y = either (is_among y names) None
  where
    either : (b : Bool) (o : Option Value) → o ≡ (if b then o else o)
    either true o = refl
    either false o = refl
beside-without names ((u, x) ∷ l) y = at (list_any (same u) names) refl (beside-without names l y)
  where
    kept : (b c : Bool) (o p : Option Value) → (b ≡ true → c ≡ false) → o ≡ (if c then None else p)
        → (if b then Some x else o) ≡ (if c then None else (if b then Some x else p))
    kept true true o p h e = absurd (false≢true (sym (h refl)))
    kept true false o p h e = refl
    kept false c o p h e = e

    lost : (b c : Bool) (p : Option Value) → (b ≡ true → c ≡ true) → (if c then None else p) ≡ (if c then None else (if b then Some x else p))
    lost true true p h = refl
    lost true false p h = absurd (false≢true (h refl))
    lost false c p h = refl

    at : (b : Bool) → list_any (same u) names ≡ b → beside y (without names l) ≡ (if is_among y names then None else beside y l)
        → beside y (cond (not b) ((u, x) ∷ without names l) (without names l)) ≡ (if is_among y names then None else beside y ((u, x) ∷ l))
    at true e ih = ih ∙ lost (same y u) (is_among y names) (beside y l) (λ h. ap (λ z. is_among z names) (same_is y u h) ∙ e)
        ∙ ap (λ o. if is_among y names then None else o) (sym (beside-cons y u x l))
    at false e ih =
        beside-cons y u x (without names l) ∙ kept (same y u) (is_among y names) (beside y (without names l)) (beside y l)
        (λ h. ap (λ z. is_among z names) (same_is y u h) ∙ e) ih
        ∙ ap (λ o. if is_among y names then None else o) (sym (beside-cons y u x l))

-- ---- which names there are

pub some-replaced : (w : List ℕ) (v : Value) (l : Values) (y : List ℕ) → is_some (beside y (replaced w v l)) ≡ is_some (beside y l)
some-replaced w v l y = ap is_some (beside-replaced w v l y) ∙ by_test (same w y) (beside y l)
  where
    by_test : (b : Bool) (o : Option Value) → is_some (if b then option_map (λ (x : Value). v) o else o) ≡ is_some o
    by_test true None = refl
    by_test true (Some x) = refl
    by_test false o = refl

pub among-added : (y w : List ℕ) (sc : List (List ℕ)) → is_among y (sc ++ w ∷ []) ≡ (is_among y sc || same y w)
among-added y w sc = list_any-append (same y) sc (w ∷ []) ∙ ap (λ b. is_among y sc || b) (or-false (same y w))

pub some-added : (w : List ℕ) (v : Value) (l : Values) (y : List ℕ) (sc : List (List ℕ)) → is_some (beside y l) ≡ is_among y sc
    → is_some (beside y (l ++ (w, v) ∷ [])) ≡ is_among y (sc ++ w ∷ [])
some-added w v l y sc h = ap is_some (beside-added w v l y) ∙ by_test (beside y l) (same y w) ∙ ap (λ b. b || same y w) h ∙ sym (among-added y w sc)
  where
    by_test : (o : Option Value) (b : Bool) → is_some (option_or o (if b then Some v else None)) ≡ (is_some o || b)
    by_test None true = refl
    by_test None false = refl
    by_test (Some x) b = refl

-- behind a block the names are those in front of it
pub some-without : (names : List (List ℕ)) (l : Values) (y : List ℕ) (sc : List (List ℕ)) → is_some (beside y l) ≡ (is_among y sc || is_among y names)
    → Apart sc names
    → is_some (beside y (without names l)) ≡ is_among y sc
some-without names l y sc h a = ap is_some (beside-without names l y) ∙ by_test (is_among y names) (is_among y sc) (beside y l) refl refl h
  where
    by_test : (b c : Bool) (o : Option Value) → is_among y names ≡ b → is_among y sc ≡ c → is_some o ≡ (c || b) → is_some (if b then None else o) ≡ c
    by_test true true o e k g = absurd (false≢true (sym (a y k) ∙ e))
    by_test true false o e k g = refl
    by_test false true o e k g = g
    by_test false false o e k g = g

-- the names in scope behind statements
pub among-after : (y : List ℕ) (c : Code) (sc : List (List ℕ)) → is_among y (after c sc) ≡ (is_among y sc || is_among y (declared c))
among-after y done sc = sym (or-false (is_among y sc))
among-after y (declare kind w e rest) sc = among-after y rest (sc ++ w ∷ []) ∙ ap (λ b. b || is_among y (declared rest)) (among-added y w sc)
    ∙ or_assoc (is_among y sc) (same y w) (is_among y (declared rest))
among-after y (assign w e rest) sc = among-after y rest sc
among-after y (if_then t b rest) sc = among-after y rest sc
among-after y (if_else t b c rest) sc = among-after y rest sc
among-after y (while_loop t b rest) sc = among-after y rest sc
among-after y (block b rest) sc = among-after y rest sc
among-after y (for_each w e b rest) sc = among-after y rest sc
among-after y (show p rs rest) sc = among-after y rest sc
among-after y (exit p rest) sc = among-after y rest sc

-- the same where the names in front of them have one more
pub among-inner : (y w : List ℕ) (c : Code) (sc : List (List ℕ)) → is_among y (after c (sc ++ w ∷ [])) ≡ (is_among y sc || is_among y (w ∷ declared c))
among-inner y w c sc = among-after y c (sc ++ w ∷ []) ∙ ap (λ b. b || is_among y (declared c)) (among-added y w sc)
    ∙ or_assoc (is_among y sc) (same y w) (is_among y (declared c))

-- values whose names are these, in order
pub names_are : (l : Values) (w : List ℕ) → is_some (beside w l) ≡ is_among w (map (λ (x : List ℕ × Value). x.0) l)
names_are [] w = refl
names_are ((v, x) ∷ l) w = ap is_some (beside-cons w v x l) ∙ by_test (same w v) (names_are l w)
  where
    by_test : (b : Bool) → is_some (beside w l) ≡ is_among w (map (λ (y : List ℕ × Value). y.0) l)
        → is_some (if b then Some x else beside w l) ≡ (b || is_among w (map (λ (y : List ℕ × Value). y.0) l))
    by_test true h = refl
    by_test false h = h
