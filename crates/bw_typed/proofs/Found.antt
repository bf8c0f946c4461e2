-- The kinds of the gaps that stand in templates.
use Rattle.std.proofs.Common.{◌≡◌, ℕ, zero, suc, ◌<◌, Bool, true, false, List, [], ◌∷◌, get_or, length, Some, refl, ap, sym, ◌∙◌, arith}
use Rattle.std.proofs.lemmas.List.{length-map}
use Rattle.bw_lang.specs.Service.Reads.{IsReadable}
use Rattle.std.specs.Prelude.{is_some, if◌then◌else◌}
use Rattle.std.specs.List.{Contains}
use Rattle.std.proofs.lemmas.Bool.{eq-eqb}
use Rattle.std.proofs.Math.Bool.{Bool-set}
use Rattle.std.proofs.Math.Logic.{∥∥₁_elim}
use Rattle.bw_lang.specs.declared.service.Service.{Service}
use Rattle.bw_types.specs.declared.fault.GapKind.{GapKind}
use Rattle.bw_types.specs.Gaps.{gap_kind, template_uses, kind_of_number}
use Rattle.bw_types.proofs.Seek.{seek-cons, is_gap, same_gap}
use Rattle.bw_typed.specs.Numbered.{numbers, NumbersAreGaps}
use Rattle.bw_typed.proofs.Services.{stands}

-- a gap that stands somewhere has a kind
has_kind : (uses : List (ℕ × GapKind)) (g i : ℕ) → i < length uses → get_or (numbers uses) i g ≡ g → is_some (gap_kind uses g) ≡ true
has_kind [] g i l e = absurd (omega (arith, l))
has_kind (x ∷ uses) g zero l e = ap is_some (seek-cons is_gap g x uses) ∙ ap (λ (b : Bool). is_some (if b then Some x.1 else gap_kind uses g)) (eq-eqb x.0 g e)
has_kind (x ∷ uses) g (suc i) l e = ap is_some (seek-cons is_gap g x uses) ∙ by_test (is_gap g x.0) (has_kind uses g i (omega (arith, l)) e)
  where
    by_test : (b : Bool) → is_some (gap_kind uses g) ≡ true → is_some (if b then Some x.1 else gap_kind uses g) ≡ true
    by_test true h = refl
    by_test false h = h

-- what has a kind is the first of its uses
pub found : (uses : List (ℕ × GapKind)) (g : ℕ) → is_some (gap_kind uses g) ≡ true → Contains (numbers uses) g
found [] g h = absurd (cc)
found (x ∷ uses) g h = by_test (is_gap g x.0) refl (sym (ap is_some (seek-cons is_gap g x uses)) ∙ h) (found uses g)
  where
    by_test : (b : Bool) → is_gap g x.0 ≡ b → is_some (if b then Some x.1 else gap_kind uses g) ≡ true
        → (is_some (gap_kind uses g) ≡ true → Contains (numbers uses) g)
        → Contains (numbers (x ∷ uses)) g
    by_test true e h ih = (0, omega arith, sym (same_gap g x.0 e))
    by_test false e h ih = let c = ih h in (suc c.0, omega (arith, c.1), c.2)

pub gaps_have_kinds : (s : Service) → ∥ IsReadable s ∥₁ → (g : ℕ) → g < length s.gaps → is_some (kind_of_number s g) ≡ true
gaps_have_kinds s h g l =
    ∥∥₁_elim h (Bool-set _ _) (λ r. let c = stands r.0 s r.1 g l in
    has_kind (template_uses s.templates) g c.0 (omega (arith, c.1, length-map (template_uses s.templates) (λ (x : ℕ × GapKind). x.0))) c.2)

pub numbers_are_gaps : NumbersAreGaps
numbers_are_gaps s h g l = found (template_uses s.templates) g (gaps_have_kinds s h g l)
