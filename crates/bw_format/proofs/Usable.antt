-- Lists of formats that can be used.
use Rattle.std.proofs.Common.{
  ◌≡◌,
  ℕ,
  ◌+◌,
  ◌<◌,
  Bool,
  true,
  false,
  cond,
  List,
  [],
  ◌∷◌,
  ◌++◌,
  zero,
  suc,
  ◌≤◌,
  length,
  get_or,
  drop,
  Some,
  None,
  refl,
  ap,
  sym,
  ◌∙◌,
  subst,
  arith,
  drop-cons,
  add-one,
  bytes_eq,
}
use Rattle.bw_format.specs.declared.format.Format.{Format}
use Rattle.bw_format.specs.Formats.{pattern_of, AreUsable}
use Rattle.bw_format.specs.Lively.{IsUsable}

pub usable_more : (fs : List Format) (f : Format) → AreUsable fs → IsUsable f.pattern → AreUsable (fs ++ f ∷ [])
usable_more [] f h u = (u, tt)
usable_more (g ∷ fs) f h u = (h.0, usable_more fs f h.1 u)

pub usable_push : (b : Bool) (fs new : List Format) (f : Format) → new ≡ cond b (fs ++ f ∷ []) fs → AreUsable fs → IsUsable f.pattern → AreUsable new
usable_push true fs new f e h u = let P : List Format → Type 0 = AreUsable in subst P (sym e) (usable_more fs f h u)
usable_push false fs new f e h u = let P : List Format → Type 0 = AreUsable in subst P (sym e) h

-- the formats from a place on
cut : (fs : List Format) (i : ℕ) (f : Format) → i < length fs → f ≡ get_or fs i f → drop i fs ≡ f ∷ drop (i + 1) fs
cut fs i f h e = rw add-one (drop-cons fs i f h ∙ ap (λ g. g ∷ drop (suc i) fs) (sym e))

pub first_here : (fs : List Format) (i : ℕ) (f : Format) (field : List ℕ) → i < length fs → f ≡ get_or fs i f → bytes_eq f.field field ≡ true
    → AreUsable (drop i fs)
    → (pattern_of (drop i fs) field ≡ Some f.pattern) × IsUsable f.pattern
first_here fs i f field h e b u =
    let c = cut fs i f h e in (
      ap (λ l. pattern_of l field) c ∙ ap (λ t. cond t (Some f.pattern) (pattern_of (drop (i + 1) fs) field)) b,
      (let P : List Format → Type 0 = AreUsable in subst P c u).0,
    )

pub not_here : (fs : List Format) (i : ℕ) (f : Format) (field : List ℕ) → i < length fs → f ≡ get_or fs i f → bytes_eq f.field field ≡ false
    → AreUsable (drop i fs)
    → (pattern_of (drop i fs) field ≡ pattern_of (drop (i + 1) fs) field) × AreUsable (drop (i + 1) fs)
not_here fs i f field h e b u =
    let c = cut fs i f h e in (
      ap (λ l. pattern_of l field) c ∙ ap (λ t. cond t (Some f.pattern) (pattern_of (drop (i + 1) fs) field)) b,
      (let P : List Format → Type 0 = AreUsable in subst P c u).1,
    )

drop_end : (fs : List Format) (i : ℕ) → length fs ≤ i → drop i fs ≡ []
drop_end [] zero h = refl
drop_end [] (suc i) h = refl
drop_end (f ∷ fs) zero h = absurd (omega (arith, h))
drop_end (f ∷ fs) (suc i) h = drop_end fs i (omega (arith, h))

pub none_left : (fs : List Format) (i : ℕ) (field : List ℕ) → length fs ≤ i → pattern_of (drop i fs) field ≡ None
none_left fs i field h = ap (λ l. pattern_of l field) (drop_end fs i h)
