-- Which gaps are open after a plug.
use Rattle.std.proofs.Common.{◌≡◌, ◌<◌, ℕ, ◌+◌, ◌≤◌, Bool, true, false, ◌||◌, ◌==◌, cond, List, [], ◌∷◌, map, refl, sym, ap, ◌∙◌, subst}
use Rattle.std.proofs.Common.{inl, inr, arith, count_by}
use Rattle.std.proofs.lemmas.Bool.{false≢true, cases_Bool, cases_lt, or_cases, or_left, or_right, or_parts, cond-true, cond-false, eqb-true}
use Rattle.std.proofs.lemmas.List.Sums.{sum_by-cons}
use Rattle.bw_lang.specs.declared.items.Attr.{Attr}
use Rattle.bw_lang.specs.declared.items.AttrValue.{AttrValue}
use Rattle.bw_lang.specs.declared.items.AttrValue.TheVariants.{Fixed, Hole}
use Rattle.bw_lang.specs.Document.Documents as doc
use Rattle.bw_lang.specs.Document.Documents.{append, filled_attr, filled_value, is_hole, count, one_if}
use Rattle.bw_lang.specs.Document.Forest.{Forest, none, text, gap, element}
use Rattle.bw_sum.specs.Laws.{OpensByCount}
use Rattle.bw_sum.specs.Opening.{holes, has_hole, opens}
use Rattle.std.proofs.Math.Bool.{or_assoc}

opens_append : (h : ℕ) (d e : Forest) → opens h (append d e) ≡ (opens h d || opens h e)
opens_append h none e = refl
opens_append h (text s d) e = opens_append h d e
opens_append h (gap g d) e = ap (λ b. (g == h) || b) (opens_append h d e) ∙ sym (or_assoc (g == h) (opens h d) (opens h e))
opens_append h (element tag a i d) e =
    ap (λ b. holes h a || (opens h i || b)) (opens_append h d e) ∙ ap (λ b. holes h a || b) (sym (or_assoc (opens h i) (opens h d) (opens h e)))
    ∙ sym (or_assoc (holes h a) (opens h i || opens h d) (opens h e))

-- another gap that was open stays open
pub opens_kept : (h : ℕ) (d : Forest) (g : ℕ) (e : Forest) → (h ≡ g → ⊥) → opens h d ≡ true → opens h (doc.plug g e d) ≡ true
opens_kept h none g e apart o = o
opens_kept h (text s d) g e apart o = opens_kept h d g e apart o
opens_kept h (element tag a i d) g e apart o = elim (or_cases (holes h a) (opens h i || opens h d) o) [
  | inl there ↦ or_left (holes h a) (opens h (doc.plug g e i) || opens h (doc.plug g e d)) there
  | inr below ↦ or_right (holes h a) (opens h (doc.plug g e i) || opens h (doc.plug g e d)) (elim (or_cases (opens h i) (opens h d) below) [
    | inl there ↦ or_left (opens h (doc.plug g e i)) (opens h (doc.plug g e d)) (opens_kept h i g e apart there)
    | inr there ↦ or_right (opens h (doc.plug g e i)) (opens h (doc.plug g e d)) (opens_kept h d g e apart there)
  ])
]
opens_kept h (gap k d) g e apart o = elim (cases_Bool (k == g)) [
  | inl same ↦ subst (λ w. opens h w ≡ true) (sym (cond-true (k == g) (append e (doc.plug g e d)) (gap k (doc.plug g e d)) same))
      (opens_append h e (doc.plug g e d) ∙ or_right (opens h e) (opens h (doc.plug g e d)) (elim (or_cases (k == h) (opens h d) o) [
        | inl here ↦ absurd (apart (sym (eqb-true k h here) ∙ eqb-true k g same))
        | inr there ↦ opens_kept h d g e apart there
      ]))
  | inr other ↦ subst (λ w. opens h w ≡ true) (sym (cond-false (k == g) (append e (doc.plug g e d)) (gap k (doc.plug g e d)) other))
      (elim (or_cases (k == h) (opens h d) o) [
        | inl here ↦ or_left (k == h) (opens h (doc.plug g e d)) here
        | inr there ↦ or_right (k == h) (opens h (doc.plug g e d)) (opens_kept h d g e apart there)
      ])
]

-- what is plugged in brings its open gaps, where there was a place for it
pub opens_brought : (h : ℕ) (d : Forest) (g : ℕ) (e : Forest) → has_hole g d ≡ false → opens g d ≡ true → opens h e ≡ true → opens h (doc.plug g e d) ≡ true
opens_brought h none g e n o p = absurd (false≢true o)
opens_brought h (text s d) g e n o p = opens_brought h d g e n o p
opens_brought h (element tag a i d) g e n o p =
    let m = or_parts (holes g a) (has_hole g i || has_hole g d) n in
    let l = or_parts (has_hole g i) (has_hole g d) m.1 in
    or_right (holes h a) (opens h (doc.plug g e i) || opens h (doc.plug g e d)) (elim (or_cases (holes g a) (opens g i || opens g d) o) [
      | inl there ↦ absurd (false≢true (sym m.0 ∙ there))
      | inr below ↦ elim (or_cases (opens g i) (opens g d) below) [
        | inl there ↦ or_left (opens h (doc.plug g e i)) (opens h (doc.plug g e d)) (opens_brought h i g e l.0 there p)
        | inr there ↦ or_right (opens h (doc.plug g e i)) (opens h (doc.plug g e d)) (opens_brought h d g e l.1 there p)
      ]
    ])
opens_brought h (gap k d) g e n o p = elim (cases_Bool (k == g)) [
  | inl same ↦ subst (λ w. opens h w ≡ true) (sym (cond-true (k == g) (append e (doc.plug g e d)) (gap k (doc.plug g e d)) same))
      (opens_append h e (doc.plug g e d) ∙ or_left (opens h e) (opens h (doc.plug g e d)) p)
  | inr other ↦ subst (λ w. opens h w ≡ true) (sym (cond-false (k == g) (append e (doc.plug g e d)) (gap k (doc.plug g e d)) other))
      (elim (or_cases (k == g) (opens g d) o) [
        | inl here ↦ absurd (false≢true (sym other ∙ here))
        | inr there ↦ or_right (k == h) (opens h (doc.plug g e d)) (opens_brought h d g e n there p)
      ])
]

pub append_hole : (g : ℕ) (d e : Forest) → has_hole g (append d e) ≡ (has_hole g d || has_hole g e)
append_hole g none e = refl
append_hole g (text s d) e = append_hole g d e
append_hole g (gap h d) e = append_hole g d e
append_hole g (element tag a i d) e =
    ap (λ b. holes g a || (has_hole g i || b)) (append_hole g d e) ∙ ap (λ b. holes g a || b) (sym (or_assoc (has_hole g i) (has_hole g d) (has_hole g e)))
    ∙ sym (or_assoc (holes g a) (has_hole g i || has_hole g d) (has_hole g e))

fix_value : (h : ℕ) (v : AttrValue) (g : ℕ) (s : List ℕ) (w : AttrValue) → (h ≡ g → ⊥) → is_hole h v ≡ true → (filled_value g s v ≡ w) → is_hole h w ≡ true
fix_value h (Fixed r) g s w apart o e = absurd (false≢true o)
fix_value h (Hole k) g s w apart o e = elim (cases_Bool (k == g)) [
  | inl same ↦ absurd (apart (sym (eqb-true k h o) ∙ eqb-true k g same))
  | inr other ↦ subst (λ z. is_hole h z ≡ true) (sym (cond-false (k == g) (Fixed s) (Hole k) other) ∙ e) o
]

fix_kept : (h : ℕ) (a : List Attr) (g : ℕ) (s : List ℕ) → (h ≡ g → ⊥) → holes h a ≡ true → holes h (map (filled_attr g s) a) ≡ true
fix_kept h [] g s apart o = o
fix_kept h (a ∷ cs) g s apart o = elim (or_cases (is_hole h a.value) (holes h cs) o) [
  | inl here ↦ or_left (is_hole h (filled_value g s a.value)) (holes h (map (filled_attr g s) cs))
      (fix_value h a.value g s (filled_value g s a.value) apart here refl)
  | inr there ↦ or_right (is_hole h (filled_value g s a.value)) (holes h (map (filled_attr g s) cs)) (fix_kept h cs g s apart there)
]

pub text_kept : (h : ℕ) (d : Forest) (g : ℕ) (s : List ℕ) → (h ≡ g → ⊥) → opens h d ≡ true → opens h (doc.plug_text g s d) ≡ true
text_kept h none g s apart o = o
text_kept h (text r d) g s apart o = text_kept h d g s apart o
text_kept h (element tag a i d) g s apart o = elim (or_cases (holes h a) (opens h i || opens h d) o) [
  | inl there ↦ or_left (holes h (map (filled_attr g s) a)) (opens h (doc.plug_text g s i) || opens h (doc.plug_text g s d)) (fix_kept h a g s apart there)
  | inr below ↦ or_right (holes h (map (filled_attr g s) a)) (opens h (doc.plug_text g s i) || opens h (doc.plug_text g s d))
      (elim (or_cases (opens h i) (opens h d) below) [
        | inl there ↦ or_left (opens h (doc.plug_text g s i)) (opens h (doc.plug_text g s d)) (text_kept h i g s apart there)
        | inr there ↦ or_right (opens h (doc.plug_text g s i)) (opens h (doc.plug_text g s d)) (text_kept h d g s apart there)
      ])
]
text_kept h (gap k d) g s apart o = elim (cases_Bool (k == g)) [
  | inl same ↦ subst (λ w. opens h w ≡ true) (sym (cond-true (k == g) (text s (doc.plug_text g s d)) (gap k (doc.plug_text g s d)) same))
      (elim (or_cases (k == h) (opens h d) o) [
        | inl here ↦ absurd (apart (sym (eqb-true k h here) ∙ eqb-true k g same))
        | inr there ↦ text_kept h d g
            s apart there
      ])
  | inr other ↦ subst (λ w. opens h w ≡ true) (sym (cond-false (k == g) (text s (doc.plug_text g s d)) (gap k (doc.plug_text g s d)) other))
      (elim (or_cases (k == h) (opens h d) o) [
        | inl here ↦ or_left (k == h) (opens h (doc.plug_text g s d)) here
        | inr there ↦ or_right (k == h)
            (opens h (doc.plug_text g s d)) (text_kept h d g s apart there)
      ])
]

counted : (b : Bool) (n : ℕ) → b ≡ true → 1 ≤ one_if b + n
counted true n h = omega arith
counted false n h = absurd (false≢true h)

holes_counted : (g : ℕ) (a : List Attr) → holes g a ≡ true → 1 ≤ count_by (λ v. is_hole g v.value) a
holes_counted g [] h = absurd (false≢true h)
holes_counted g (x ∷ a) h =
    let c = sum_by-cons (λ (v : Attr). cond (is_hole g v.value) 1 0) x a in
    elim (or_cases (is_hole g x.value) (holes g a) h) [
      | inl here ↦ omega (arith, c, counted (is_hole g x.value) (count_by (λ v. is_hole g v.value) a) here)
      | inr there ↦ omega (arith, c, holes_counted g a there)
    ]

-- an open gap is counted
pub opens_counted : (g : ℕ) (d : Forest) → opens g d ≡ true → 1 ≤ count g d
opens_counted g none h = absurd (false≢true h)
opens_counted g (text s d) h = opens_counted g d h
opens_counted g (gap k d) h = elim (or_cases (k == g) (opens g d) h) [
  | inl here ↦ counted (k == g) (count g d) here
  | inr there ↦ omega (arith, opens_counted g d there)
]
opens_counted g (element tag a i d) h = elim (or_cases (holes g a) (opens g i || opens g d) h) [
  | inl here ↦ omega (arith, holes_counted g a here)
  | inr below ↦ elim (or_cases (opens g i) (opens g d) below) [
    | inl there ↦ omega (arith, opens_counted g i there)
    | inr there ↦ omega (arith, opens_counted g d there)
  ]
]

-- a gap that is counted is open
counted_holes : (g : ℕ) (a : List Attr) → 0 < count_by (λ v. is_hole g v.value) a → holes g a ≡ true
counted_holes g [] h = absurd (omega arith)
counted_holes g (x ∷ a) h = by_test (is_hole g x.value) refl (counted_holes g a)
  where
    by_test : (b : Bool) → is_hole g x.value ≡ b → (0 < count_by (λ v. is_hole g v.value) a → holes g a ≡ true) → (is_hole g x.value || holes g a) ≡ true
    by_test true e rest = or_left (is_hole g x.value) (holes g a) e
    by_test false e rest =
        let c = sum_by-cons (λ (v : Attr). cond (is_hole g v.value) 1 0) x a in
        let n : cond {A = ℕ} (is_hole g x.value) 1 0 ≡ 0 = cond-false (is_hole g x.value) 1 0 e in
        or_right (is_hole g x.value) (holes g a) (rest (omega (arith, c, h)))

counted_opens : (g : ℕ) (d : Forest) → 0 < count g d → opens g d ≡ true
counted_opens g none h = absurd (omega arith)
counted_opens g (text s d) h = counted_opens g d h
counted_opens g (gap k d) h = by_test (k == g) refl (counted_opens g d)
  where
    by_test : (b : Bool) → (k == g) ≡ b → (0 < count g d → opens g d ≡ true) → ((k == g) || opens g d) ≡ true
    by_test true e rest = or_left (k == g) (opens g d) e
    by_test false e rest =
        let n : one_if (k == g) ≡ 0 = ap one_if e in
        or_right (k == g) (opens g d) (rest (omega arith))
counted_opens g (element tag a i d) h = elim (cases_lt 0 (count_by (λ v. is_hole g v.value) a)) [
  | inl here ↦ or_left (holes g a) (opens g i || opens g d) (counted_holes g a here)
  | inr none_here ↦ or_right (holes g a) (opens g i || opens g d) (elim (cases_lt 0 (count g i)) [
    | inl there ↦ or_left (opens g i) (opens g d) (counted_opens g i there)
    | inr none_there ↦ or_right (opens g i) (opens g d) (counted_opens g d (omega arith))
  ])
]

pub opens_by_count : OpensByCount
opens_by_count g d = (λ o. let h = opens_counted g d o in omega arith, counted_opens g d)
