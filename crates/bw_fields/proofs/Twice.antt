-- Where a page may not have a field twice, no unfolding has.
use Rattle.std.proofs.Common.{◌≡◌, ◌⊎◌, inl, inr, ℕ, zero, suc, ◌+◌, ◌≤◌, ◌==◌, true, false, ◌||◌, List, refl, ap, sym, ◌∙◌, arith}
use Rattle.std.specs.List.{list_any}
use Rattle.std.proofs.lemmas.Bool.{false≢true, cases_Bool, or_cases, or_left, or_right, or_parts}
use Rattle.bw_lang.specs.declared.items.Attr.{Attr}
use Rattle.bw_lang.specs.Document.Forest.{Forest, none, text, gap, element}
use Rattle.bw_lang.specs.Document.Documents.{append, one_if}
use Rattle.bw_lang.specs.Table.Names.{name_number}
use Rattle.bw_sum.specs.Graph.{Graph}
use Rattle.bw_shape.specs.Tests.{stands, is_field}
use Rattle.bw_shape.specs.Shape as shape
use Rattle.bw_shape.specs.Shape.{Has, Places, Doubles}
use Rattle.bw_sum.specs.Unfolding.{FillsAttrs, Fills, end, words, inside, left, said, led}
use Rattle.bw_fields.specs.Plain.{is_plain, ArePlain, controls}
use Rattle.bw_fields.specs.Laws.{NotTwice}
use Rattle.bw_shape.proofs.Walks.{stands-append}
use Rattle.bw_fields.proofs.Sound.{same_field}

split : (k : ℕ) → (2 ≤ k) ⊎ (k ≤ 1)
split zero = inr (omega arith)
split (suc zero) = inr (omega arith)
split (suc (suc k)) = inl (omega arith)

module _ (templates : ℕ → Forest) (G : Graph) (names : List (List ℕ)) (f : ℕ) (plain : (n : ℕ) → ArePlain (templates n)) where
  controls_append : (d e : Forest) → controls names f (append d e) ≡ controls names f d + controls names f e
  controls_append none e = omega arith
  controls_append (text s r) e = controls_append r e
  controls_append (gap g r) e = controls_append r e
  controls_append (element tag a i r) e = omega (arith, controls_append r e)

  none_counted : (d : Forest) → stands names f d ≡ false → controls names f d ≡ 0
  none_counted none h = refl
  none_counted (text s r) h = none_counted r h
  none_counted (gap g r) h = none_counted r h
  none_counted (element tag a i r) h =
      let k = or_parts (is_field names f tag a) (stands names f i || stands names f r) h in
      let l = or_parts (stands names f i) (stands names f r) k.1 in
      omega (arith, ap one_if k.0, none_counted i l.0, none_counted r l.1)

  same_control : {n : ℕ} {a b : List Attr} (tag : List ℕ) → FillsAttrs G n a b → is_plain tag a ≡ true → is_field names f tag b ≡ is_field names f tag a
  same_control tag q h = ap (λ xs. list_any (λ x. name_number names x.0 == f) xs) (same_field tag q h)

  -- an edge of template n leads to one that may have the field
  abbrev LeadsToHave : ℕ → Type 0
  LeadsToHave n = (g : ℕ) × (m : ℕ) × (G.edge n g m ≡ true) × Has templates G names f m

  abbrev LeadsToTwice : ℕ → Type 0
  LeadsToTwice n = (g : ℕ) × (m : ℕ) × (G.edge n g m ≡ true) × Doubles templates G names f m

  may_have : (m : ℕ) → (stands names f (templates m) ≡ true) ⊎ LeadsToHave m → Has templates G names f m
  may_have m (inl x) = shape.stands_here x
  may_have m (inr x) = shape.leads x.2 x.3

  -- where an unfolding has a control of the field, its template may have it
  have_by : {n : ℕ} {t d : Forest} → ArePlain t → Fills templates G n t d → stands names f d ≡ true → (stands names f t ≡ true) ⊎ LeadsToHave n
  have_by p end h = absurd (false≢true h)
  have_by p (words r) h = have_by p r h
  have_by p (inside {tag = tag} {a = a} {b = b} {i = i} {j = j} {t = t} {d = d} q x r) h =
      elim (or_cases (is_field names f tag b) (stands names f j || stands names f d) h) [
        | inl it ↦ inl (or_left (is_field names f tag a) (stands names f i || stands names f t) (sym (same_control tag q p.0) ∙ it))
        | inr it ↦ elim (or_cases (stands names f j) (stands names f d) it) [
          | inl below ↦ elim (have_by p.1.0 x below) [
            | inl y ↦ inl (or_right (is_field names f tag a) (stands names f i || stands names f t) (or_left (stands names f i) (stands names f t) y))
            | inr y ↦ inr y
          ]
          | inr after ↦ elim (have_by p.1.1 r after) [
            | inl y ↦ inl (or_right (is_field names f tag a) (stands names f i || stands names f t) (or_right (stands names f i) (stands names f t) y))
            | inr y ↦ inr y
          ]
        ]
      ]
  have_by p (left l r) h = have_by p r h
  have_by p (said l r) h = have_by p r h
  have_by p (led {g = g} {m = m} {d = d} {e = e} l i r) h = elim (or_cases (stands names f e) (stands names f d) (sym (stands-append names f e d) ∙ h)) [
    | inl it ↦ inr (g, m, l, may_have m (have_by (plain m) i it))
    | inr it ↦ have_by p r it
  ]

  abbrev Counted : ℕ → Forest → Forest → Type 0
  Counted n t d = (k : ℕ) × Places templates G names f n t k × (controls names f d ≤ k)

  -- an unfolding has no more controls of the field than its template has places, unless an edge leads to two
  twice_by : {n : ℕ} {t d : Forest} → ArePlain t → Fills templates G n t d → LeadsToTwice n ⊎ Counted n t d
  twice_by p end = inr (0, shape.end, omega arith)
  twice_by p (words r) = elim (twice_by p r) [ inl x ↦ inl x | inr x ↦ inr (x.0, shape.words x.1, x.2) ]
  twice_by p (inside {tag = tag} {a = a} {b = b} {j = j} {d = d} q i r) = elim (twice_by p.1.0 i) [
    | inl x ↦ inl x
    | inr x ↦ elim (twice_by p.1.1 r) [
      | inl y ↦ inl y
      | inr y ↦ elim (cases_Bool (is_field names f tag a)) [
        | inl it ↦ inr (1 + (x.0 + y.0), shape.control it x.1 y.1, omega (arith, x.2, y.2, ap one_if (same_control tag q p.0 ∙ it)))
        | inr isnt ↦ inr (x.0 + y.0, shape.other x.1 y.1, omega (arith, x.2, y.2, ap one_if (same_control tag q p.0 ∙ isnt)))
      ]
    ]
  ]
  twice_by p (left l r) = elim (twice_by p r) [ inl x ↦ inl x | inr x ↦ inr (x.0, shape.passed x.1, x.2) ]
  twice_by p (said l r) = elim (twice_by p r) [ inl x ↦ inl x | inr x ↦ inr (x.0, shape.passed x.1, x.2) ]
  twice_by p (led {g = g} {m = m} {d = d} {e = e} l i r) = elim (twice_by (plain m) i) [
    | inl x ↦ inl (g, m, l, shape.leads x.2 x.3)
    | inr x ↦ elim (split x.0) [
      | inl two ↦ inl (g, m, l, shape.two x.1 two)
      | inr one ↦ elim (twice_by p r) [
        | inl y ↦ inl y
        | inr y ↦ elim (cases_Bool (stands names f e)) [
          | inl it ↦ inr (1 + y.0, shape.led l (may_have m (have_by (plain m) i it)) y.1, omega (arith, controls_append e d, x.2, y.2, one))
          | inr isnt ↦ inr (y.0, shape.passed y.1, omega (arith, controls_append e d, none_counted e isnt, y.2))
        ]
      ]
    ]
  ]

pub not_twice : NotTwice
not_twice templates G names root f plain h d u = elim (twice_by templates G names f plain (plain root) u) [
  | inl x ↦ absurd (h (shape.leads x.2 x.3))
  | inr x ↦ elim (split x.0) [
    | inl two ↦ absurd (h (shape.two x.1 two))
    | inr one ↦ omega (arith, x.2, one)
  ]
]
