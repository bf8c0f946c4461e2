-- Values that are inside the format of a field, pair by pair.
use Rattle.std.proofs.Common.{◌≡◌, ◌↔◌, ℕ, suc, ◌+◌, ◌<◌, ◌≤◌, Bool, true, false, cond, List, ◌∷◌, length, get_or, drop, map, chars, refl, ap, sym, ◌∙◌, subst, drop-cons, add-one, IsTrue}
use Rattle.std.specs.List.{All, filter}
use Rattle.std.proofs.lemmas.List.{drop_all}
use Rattle.std.proofs.lemmas.List.Elements.{All-nil, All-cons, All-head, All-tail}
use Rattle.bw_format.specs.declared.format.Format.{Format}
use Rattle.bw_format.specs.Formats.{Accepts}
use Rattle.bw_lang.specs.Service.Submissions.{values_of}
use Rattle.bw_lang.specs.Table.Names.{same}
use Rattle.bw_meaning.specs.States.{Form}
use Rattle.bw_model.specs.Guards.{IsInside}

abbrev Pair : Type 0
Pair = List ℕ × List ℕ

-- the pairs from a place on
cut : {A : Type 0} (xs : List A) (i : ℕ) (x : A) → i < length xs → x ≡ get_or xs i x → drop i xs ≡ x ∷ drop (i + 1) xs
cut xs i x h e = rw add-one (drop-cons xs i x h ∙ ap (λ y. y ∷ drop (suc i) xs) (sym e))

module _ (formats : List Format) (field : List ℕ) where
  abbrev Takes : List ℕ → Type 0
  Takes value = Accepts formats field (chars value)

  abbrev kept : Bool → Pair → Form → List (List ℕ)
  kept b pair pairs = map (λ (x : Pair). x.1) (cond b (pair ∷ filter (λ (x : Pair). same field x.0) pairs) (filter (λ (x : Pair). same field x.0) pairs))

  values_are : (pair : Pair) (pairs : Form) (b : Bool) → same field pair.0 ≡ b → values_of field (pair ∷ pairs) ≡ kept b pair pairs
  values_are pair pairs b e = ap (λ c. kept c pair pairs) e

  pub others : (pairs : Form) (i : ℕ) (pair : Pair) → i < length pairs → pair ≡ get_or pairs i pair → same field pair.0 ≡ false
      → IsInside formats (drop i pairs) field ↔ IsInside formats pairs field → IsInside formats (drop (i + 1) pairs) field ↔ IsInside formats pairs field
  others pairs i pair h e n k =
      let same_values : values_of field (drop i pairs) ≡ values_of field (drop (i + 1) pairs) =
      ap (values_of field) (cut pairs i pair h e) ∙ values_are pair (drop (i + 1) pairs) false n in
      (λ all. k.0 (subst (All Takes) (sym same_values) all), λ all. subst (All Takes) same_values (k.1 all))

  module _ (pairs : Form) (i : ℕ) (pair : Pair) (h : i < length pairs) (e : pair ≡ get_or pairs i pair) (n : same field pair.0 ≡ true)
      (k : IsInside formats (drop i pairs) field ↔ IsInside formats pairs field) where
    here : values_of field (drop i pairs) ≡ pair.1 ∷ values_of field (drop (i + 1) pairs)
    here = ap (values_of field) (cut pairs i pair h e) ∙ values_are pair (drop (i + 1) pairs) true n

    pub passed : Takes pair.1 → IsInside formats (drop (i + 1) pairs) field ↔ IsInside formats pairs field
    passed a =
        let P : List (List ℕ) → Type 0 = All Takes in
        let vs = values_of field (drop (i + 1) pairs) in
        (λ all. k.0 (subst P (sym here) (All-cons Takes pair.1 vs a all)), λ all. All-tail Takes pair.1 vs (subst P here (k.1 all)))

    pub outside : (Takes pair.1 → ⊥) → IsTrue false ↔ IsInside formats pairs field
    outside f =
        let P : List (List ℕ) → Type 0 = All Takes in
        (λ t. cc, λ all. absurd (f (All-head Takes pair.1 (values_of field (drop (i + 1) pairs)) (subst P here (k.1 all)))))

  pub all_passed : (pairs : Form) (i : ℕ) → length pairs ≤ i → IsInside formats (drop i pairs) field ↔ IsInside formats pairs field
      → IsTrue true ↔ IsInside formats pairs field
  all_passed pairs i h k =
      let P : Form → Type 0 = λ ps. IsInside formats ps field in
      (λ t. k.0 (subst P (sym (drop_all i pairs h)) (All-nil Takes)), λ all. refl)
