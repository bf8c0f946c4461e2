-- Whether a form has a value outside its formats is decided, in one way.
use Rattle.std.proofs.Common.{◌≡◌, ◌⊎◌, inl, inr, ℕ, List, [], ◌∷◌, chars, Option, Some, None, refl, sym, ◌∙◌, MatchOption}
use Rattle.std.specs.List.{All}
use Rattle.std.proofs.lemmas.List.Elements.{All-nil, All-cons, All-head, All-tail}
use Rattle.bw_format.specs.declared.format.Format.{Format}
use Rattle.bw_format.specs.Pattern.{Pattern, In}
use Rattle.bw_format.specs.Formats.{Accepts, pattern_of}
use Rattle.bw_format.proofs.LightLaws.{in_or_not}
use Rattle.bw_lang.specs.Service.Submissions.{values_of}
use Rattle.bw_meaning.specs.States.{Form}
use Rattle.bw_model.specs.Guards.{IsInside, FirstOutside}

-- what is decided of each is decided of all
all_or_not : (P : List ℕ → Type 0) → ((x : List ℕ) → P x ⊎ (P x → ⊥)) → (xs : List (List ℕ)) → All P xs ⊎ (All P xs → ⊥)
all_or_not P d [] = inl (All-nil P)
all_or_not P d (x ∷ xs) = by (d x) (all_or_not P d xs)
  where
    by : P x ⊎ (P x → ⊥) → All P xs ⊎ (All P xs → ⊥) → All P (x ∷ xs) ⊎ (All P (x ∷ xs) → ⊥)
    by (inl h) (inl k) = inl (All-cons P x xs h k)
    by (inl h) (inr k) = inr (λ a. k (All-tail P x xs a))
    by (inr h) k = inr (λ a. h (All-head P x xs a))

module _ (formats : List Format) (form : Form) where
  abbrev Takes : List ℕ → Option Pattern → Type 0
  Takes text o = MatchOption o (Unit {0}) (λ p. In p text)

  takes_or_not : (text : List ℕ) (o : Option Pattern) → Takes text o ⊎ (Takes text o → ⊥)
  takes_or_not text None = inl tt
  takes_or_not text (Some p) = in_or_not p text

  pub accepts_or_not : (field text : List ℕ) → Accepts formats field text ⊎ (Accepts formats field text → ⊥)
  accepts_or_not field text = takes_or_not text (pattern_of formats field)

  inside_or_not : (field : List ℕ) → IsInside formats form field ⊎ (IsInside formats form field → ⊥)
  inside_or_not field = all_or_not (λ value. Accepts formats field (chars value)) (λ value. accepts_or_not field (chars value)) (values_of field form)

  pub some_first : (fields : List (List ℕ)) → (first : Option (List ℕ)) × FirstOutside formats form fields first
  some_first [] = (None, refl)
  some_first (field ∷ fields) = by (inside_or_not field) (some_first fields)
    where
      by : IsInside formats form field ⊎ (IsInside formats form field → ⊥) → (first : Option (List ℕ)) × FirstOutside formats form fields first
          → (first : Option (List ℕ)) × FirstOutside formats form (field ∷ fields) first
      by (inl h) later = (later.0, inl (h, later.1))
      by (inr h) later = (Some field, inr (h, refl))

  pub one_first : (fields : List (List ℕ)) (a b : Option (List ℕ)) → FirstOutside formats form fields a → FirstOutside formats form fields b → a ≡ b
  one_first [] a b h k = h ∙ sym k
  one_first (field ∷ fields) a b (inl h) (inl k) = one_first fields a b h.1 k.1
  one_first (field ∷ fields) a b (inl h) (inr k) = absurd (k.0 h.0)
  one_first (field ∷ fields) a b (inr h) (inl k) = absurd (h.0 k.0)
  one_first (field ∷ fields) a b (inr h) (inr k) = h.1 ∙ sym k.1

  -- where none is outside all are inside
  pub all_inside : (fields : List (List ℕ)) (first : Option (List ℕ)) → first ≡ None → FirstOutside formats form fields first
      → All (IsInside formats form) fields
  all_inside [] first e h = All-nil (IsInside formats form)
  all_inside (field ∷ fields) first e (inl h) = All-cons (IsInside formats form) field fields h.0 (all_inside fields first e h.1)
  all_inside (field ∷ fields) first e (inr h) = absurd (let k : Some field ≡ None = sym h.1 ∙ e in cc)

-- without formats each value is accepted
accepted : (form : Form) (field : List ℕ) → IsInside [] form field
accepted form field = each (values_of field form)
  where
    each : (values : List (List ℕ)) → All (λ value. Accepts [] field (chars value)) values
    each [] = All-nil (λ value. Accepts [] field (chars value))
    each (v ∷ values) = All-cons (λ value. Accepts [] field (chars value)) v values tt (each values)

pub none_outside : (form : Form) (fields : List (List ℕ)) → FirstOutside [] form fields None
none_outside form [] = refl
none_outside form (field ∷ fields) = inl (accepted form field, none_outside form fields)
