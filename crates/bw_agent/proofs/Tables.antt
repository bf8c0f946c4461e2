-- Tables of names, and the names that they were made of.
use Rattle.std.proofs.Common.{◌≡◌, ◌<◌, ℕ, Bool, true, false, List, [], ◌∷◌, ◌++◌, length, refl, ap, sym, ◌∙◌, Option, Some}
use Rattle.std.specs.Prelude.{◌||◌, if◌then◌else◌, ◌↔◌, IsTrue}
use Rattle.std.specs.List.{list_any}
use Rattle.std.proofs.lemmas.List.Folds.{list_any-append}
use Rattle.bw_lang.specs.Table.Names.{same, with_name, with_names, name_number}
use Rattle.bw_lang.proofs.SameNames.{same_is}
use Rattle.bw_lang.proofs.TableLaws.{known, there}
use Rattle.bw_meaning.specs.States.{Form}
use Rattle.bw_agent.specs.Filled.{unknown}

-- a table answers as its names do
pub table_has : (names : List (List ℕ)) (n : List ℕ) (b : Bool) → (IsTrue b ↔ (name_number names n < length names)) → b ≡ list_any (same n) names
table_has names n true h = sym (there names n (h.0 refl))
table_has names n false h = by_test (list_any (same n) names) refl
  where
    by_test : (t : Bool) → list_any (same n) names ≡ t → false ≡ list_any (same n) names
    by_test true e = h.1 (known names n e) ∙ sym e
    by_test false e = sym e

or_false : (b : Bool) → (b || false) ≡ b
or_false true = refl
or_false false = refl

or_true : (b : Bool) → (b || true) ≡ true
or_true true = refl
or_true false = refl

or_assoc : (a b c : Bool) → ((a || b) || c) ≡ (a || (b || c))
or_assoc true b c = refl
or_assoc false b c = refl

-- behind a name that was taken in, that name is known, and no other one more
pub known_behind : (n m : List ℕ) (names : List (List ℕ)) → list_any (same n) (with_name names m) ≡ (list_any (same n) names || same n m)
known_behind n m names = by_test (list_any (same m) names) refl
  where
    known_already : (t : Bool) → list_any (same m) names ≡ true → same n m ≡ t → list_any (same n) names ≡ (list_any (same n) names || t)
    known_already true e k = (let first = ap (λ x. list_any (same x) names) (same_is n m k) ∙ e in first ∙ sym (or_true (list_any (same n) names)))
    known_already false e k = sym (or_false (list_any (same n) names))

    by_test : (t : Bool) → list_any (same m) names ≡ t → list_any (same n) (if t then names else names ++ m ∷ []) ≡ (list_any (same n) names || same n m)
    by_test true e = known_already (same n m) e refl
    by_test false e = list_any-append (same n) names (m ∷ []) ∙ ap (λ b. list_any (same n) names || b) (or_false (same n m))

known_all : (n : List ℕ) (old new : List (List ℕ)) → list_any (same n) (with_names old new) ≡ (list_any (same n) old || list_any (same n) new)
known_all n old [] = sym (or_false (list_any (same n) old))
known_all n old (m ∷ new) =
    known_all n (with_name old m) new
    ∙ ap (λ b. b || list_any (same n) new) (known_behind n m old)
    ∙ or_assoc (list_any (same n) old) (same n m) (list_any (same n) new)

-- what is unknown to a table of names is unknown to the names
pub unknown_alike : (names : List (List ℕ)) (answers : Form) → unknown (with_names [] names) answers ≡ unknown names answers
unknown_alike names [] = refl
unknown_alike names (p ∷ ps) =
    ap (λ (b : Bool). if b then unknown (with_names [] names) ps else Some p.0) (known_all p.0 [] names)
    ∙ ap (λ o. if list_any (same p.0) names then o else Some p.0) (unknown_alike names ps)

pub ruleset table_steps = (unknown_alike)
