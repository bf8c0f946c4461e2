-- Each key of a list of pairs has one kind where each pair has the kind of the first pair of its key.
use Rattle.std.proofs.Common.{◌≡◌, ℕ, ◌<◌, Bool, true, false, List, [], ◌∷◌, length, get_or, zero, suc, Option, Some, refl, ap, sym, ◌∙◌, arith}
use Rattle.std.specs.Prelude.{if◌then◌else◌}
use Rattle.std.specs.List.{All, AllPairs}
use Rattle.std.proofs.lemmas.Bool.{eq-eqb}
use Rattle.std.proofs.lemmas.Cmp.{nat_list_eq_equiv}
use Rattle.std.proofs.lemmas.List.Elements.{All-cons, All-nil}
use Rattle.bw_lang.specs.declared.controls.FieldKind.{FieldKind}
use Rattle.bw_lang.specs.declared.controls.FieldKind.TheVariants.{Single, Choice, Many}
use Rattle.bw_lang.specs.Table.Names.{same, beside}
use Rattle.bw_types.specs.declared.fault.GapKind.{GapKind}
use Rattle.bw_types.specs.declared.fault.GapKind.TheVariants.{Content, Attribute}
use Rattle.bw_types.specs.Gaps.{gap_kind}
use Rattle.bw_types.specs.TemplateFaults.{is_other_gap_kind, is_other_field_kind}
use Rattle.bw_lang.proofs.SameNames.{same_is}
use Rattle.bw_types.proofs.Seek.{seek, seek-cons, is_gap, same_gap}

-- two pairs of one key have one kind
abbrev pub Agree : {K V : Type 0} → List (K × V) → Type 0
Agree xs = AllPairs (λ x y. x.0 ≡ y.0 → x.1 ≡ y.1) xs

module _ {K V : Type 0} (test : K → K → Bool) (is_other : Option V → V → Bool)
    (agree : (w k : K) → test w k ≡ true → w ≡ k) (self : (w : K) → test w w ≡ true)
    (other_is : (v k : V) → is_other (Some v) k ≡ false → v ≡ k) (no_other : (v : V) → is_other (Some v) v ≡ false) where
  -- the kind is that of the first pair of its key
  abbrev Fits : List (K × V) → K × V → Type 0
  Fits xs y = is_other (seek test y.0 xs) y.1 ≡ false

  -- a pair of the list has a first pair of its key
  there : (xs : List (K × V)) (i : ℕ) (d : K × V) → i < length xs → (v : V) × (seek test (get_or xs i d).0 xs ≡ Some v)
  there [] i d h = absurd (omega arith)
  there (x ∷ xs) zero d h = (x.1, seek-cons test x.0 x xs ∙ ap (λ (b : Bool). if b then Some x.1 else seek test x.0 xs) (self x.0))
  there (x ∷ xs) (suc i) d h =
      let r = by_test (test (get_or xs i d).0 x.0) (there xs i d (omega arith)) in (r.0, seek-cons test (get_or xs i d).0 x xs ∙ r.1)
    where
      by_test : (b : Bool) → (v : V) × (seek test (get_or xs i d).0 xs ≡ Some v) → (v : V) × ((if b then Some x.1 else seek test (get_or xs i d).0 xs) ≡ Some v)
      by_test true r = (x.1, refl)
      by_test false r = r

  pub fits_agree : (xs : List (K × V)) → All (Fits xs) xs → Agree xs
  fits_agree xs f i j d l m e =
      let x = there xs i d (omega (arith, l, m)) in let y = there xs j d m in
      let p = other_is x.0 (get_or xs i d).1 (ap (λ o. is_other o (get_or xs i d).1) (sym x.1) ∙ f i d (omega (arith, l, m))) in
      let q = other_is y.0 (get_or xs j d).1 (ap (λ o. is_other o (get_or xs j d).1) (sym y.1) ∙ f j d m) in
      let r : Some x.0 ≡ Some y.0 = sym x.1 ∙ ap (λ k. seek test k xs) e ∙ y.1 in
      let k : x.0 ≡ y.0 = cc in sym p ∙ k ∙ q

  one_more : (x : K × V) (xs : List (K × V)) (y : K × V) → (x.0 ≡ y.0 → x.1 ≡ y.1) → Fits xs y → Fits (x ∷ xs) y
  one_more x xs y h f = ap (λ o. is_other o y.1) (seek-cons test y.0 x xs) ∙ by_test (test y.0 x.0) refl
    where
      by_test : (b : Bool) → test y.0 x.0 ≡ b → is_other (if b then Some x.1 else seek test y.0 xs) y.1 ≡ false
      by_test true e = ap (λ v. is_other (Some v) y.1) (h (sym (agree y.0 x.0 e))) ∙ no_other y.1
      by_test false e = f

  pub agree_fits : (xs : List (K × V)) → Agree xs → All (Fits xs) xs
  agree_fits [] a = All-nil (Fits [])
  agree_fits (x ∷ xs) a =
      let behind = agree_fits xs (λ i j d l m. a (suc i) (suc j) d (omega (arith, l)) (omega (arith, m))) in
      All-cons (Fits (x ∷ xs)) x xs (ap (λ o. is_other o x.1)
      (seek-cons test x.0 x xs ∙ ap (λ (b : Bool). if b then Some x.1 else seek test x.0 xs) (self x.0)) ∙ no_other x.1)
      (λ i d l. one_more x xs (get_or xs i d) (a 0 (suc i) d (omega arith) (omega (arith, l))) (behind i d l))

-- ---- gaps and fields

same_gap_kind : (v k : GapKind) → is_other_gap_kind (Some v) k ≡ false → v ≡ k
same_gap_kind Content Content h = refl
same_gap_kind Attribute Attribute h = refl
same_gap_kind Content Attribute h = absurd (cc)
same_gap_kind Attribute Content h = absurd (cc)

no_other_gap_kind : (v : GapKind) → is_other_gap_kind (Some v) v ≡ false
no_other_gap_kind Content = refl
no_other_gap_kind Attribute = refl

same_field_kind : (v k : FieldKind) → is_other_field_kind (Some v) k ≡ false → v ≡ k
same_field_kind Single Single h = refl
same_field_kind Choice Choice h = refl
same_field_kind Many Many h = refl
same_field_kind Single Choice h = absurd (cc)
same_field_kind Single Many h = absurd (cc)
same_field_kind Choice Single h = absurd (cc)
same_field_kind Choice Many h = absurd (cc)
same_field_kind Many Single h = absurd (cc)
same_field_kind Many Choice h = absurd (cc)

no_other_field_kind : (v : FieldKind) → is_other_field_kind (Some v) v ≡ false
no_other_field_kind Single = refl
no_other_field_kind Choice = refl
no_other_field_kind Many = refl

-- the kind of a gap, and of a field, is that of its first place
abbrev pub GapFits : List (ℕ × GapKind) → ℕ × GapKind → Type 0
GapFits uses x = is_other_gap_kind (gap_kind uses x.0) x.1 ≡ false

abbrev pub FieldFits : List (List ℕ × FieldKind) → List ℕ × FieldKind → Type 0
FieldFits more x = is_other_field_kind (beside x.0 more) x.1 ≡ false

pub gaps_agree : (uses : List (ℕ × GapKind)) → All (GapFits uses) uses → Agree uses
gaps_agree uses a = fits_agree is_gap is_other_gap_kind same_gap (λ g. eq-eqb g g refl) same_gap_kind no_other_gap_kind uses a

pub gaps_fit : (uses : List (ℕ × GapKind)) → Agree uses → All (GapFits uses) uses
gaps_fit uses a = agree_fits is_gap is_other_gap_kind same_gap (λ g. eq-eqb g g refl) same_gap_kind no_other_gap_kind uses a

pub fields_agree : (more : List (List ℕ × FieldKind)) → All (FieldFits more) more → Agree more
fields_agree more a = fits_agree same is_other_field_kind same_is (λ w. nat_list_eq_equiv.refl w) same_field_kind no_other_field_kind more a

pub fields_fit : (more : List (List ℕ × FieldKind)) → Agree more → All (FieldFits more) more
fields_fit more a = agree_fits same is_other_field_kind same_is (λ w. nat_list_eq_equiv.refl w) same_field_kind no_other_field_kind more a
