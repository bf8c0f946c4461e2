-- Looking a name or a gap up in a list of pairs, and in the table of its first pairs.
use Rattle.std.proofs.Common.{◌≡◌, ℕ, ◌+◌, ◌≤◌, Bool, true, false, cond, List, [], ◌∷◌, ◌++◌, length, Option, Some, None, refl, ap, sym, ◌∙◌, arith}
use Rattle.std.specs.Prelude.{◌==◌, ◌||◌, is_some, if◌then◌else◌, option_map, find, nat_lt, not}
use Rattle.std.specs.List.{list_any}
use Rattle.std.specs.Option.{option_or}
use Rattle.std.proofs.lemmas.Bool.{eqb-true, lt-ltb, le-ltb}
use Rattle.std.proofs.lemmas.List.Folds.{list_any-append}
use Rattle.bw_lang.specs.Table.Names.{same, name_number, with_name, with_names}
use Rattle.bw_lang.proofs.SameNames.{same_is}
use Rattle.bw_lang.proofs.TableLaws.{known}
use Rattle.bw_types.specs.declared.fault.GapKind.{GapKind}
use Rattle.bw_types.specs.Gaps.{gap_kind}
use Rattle.bw_lang.specs.Table.Names.{beside}
use Rattle.bw_types.specs.Scopes.{is_among}
use Rattle.bw_types.specs.Tables.{with_kind, with_kinds, with_use, with_uses}
use Rattle.std.proofs.Math.Bool.{or-false}
use Rattle.std.proofs.Math.Bool as bools

module _ {K V : Type 0} (test : K → K → Bool) where
  -- what stands beside the first key that passes
  abbrev pub seek : K → List (K × V) → Option V
  seek w pairs = option_map (λ x. x.1) (find (λ x. test w x.0) pairs)

  pub seek-cons : (w : K) (x : K × V) (pairs : List (K × V)) → seek w (x ∷ pairs) ≡ (if test w x.0 then Some x.1 else seek w pairs)
  seek-cons w x pairs = by_test (test w x.0)
    where
      by_test : (b : Bool) → option_map (λ (y : K × V). y.1) (cond b (Some x) (find (λ y. test w y.0) pairs)) ≡ (if b then Some x.1 else seek w pairs)
      by_test true = refl
      by_test false = refl

  pub seek-append : (w : K) (a b : List (K × V)) → seek w (a ++ b) ≡ option_or (seek w a) (seek w b)
  seek-append w [] b = refl
  seek-append w (x ∷ a) b = seek-cons w x (a ++ b) ∙ by_test (test w x.0) (seek-append w a b) ∙ ap (λ o. option_or o (seek w b)) (sym (seek-cons w x a))
    where
      by_test : (t : Bool) → seek w (a ++ b) ≡ option_or (seek w a) (seek w b)
          → (if t then Some x.1 else seek w (a ++ b)) ≡ option_or (if t then Some x.1 else seek w a) (seek w b)
      by_test true ih = refl
      by_test false ih = ih

  or_there : (o p : Option V) → is_some o ≡ true → option_or o p ≡ o
  or_there None p h = absurd (cc)
  or_there (Some v) p h = refl

  -- a pair that is taken in, unless its key is there
  pub seek-with : ((w k : K) → test w k ≡ true → w ≡ k) → (w : K) (t : List (K × V)) (x : K × V)
      → seek w (if is_some (seek x.0 t) then t else t ++ x ∷ []) ≡ option_or (seek w t) (seek w (x ∷ []))
  seek-with agree w t x = by_test (is_some (seek x.0 t)) refl
    where
      here : (b : Bool) → test w x.0 ≡ b → is_some (seek x.0 t) ≡ true → seek w t ≡ option_or (seek w t) (if b then Some x.1 else None)
      here true e h = sym (or_there (seek w t) (Some x.1) (ap (λ k. is_some (seek k t)) (agree w x.0 e) ∙ h))
      here false e h = none_behind (seek w t)
        where
          none_behind : (o : Option V) → o ≡ option_or o None
          none_behind None = refl
          none_behind (Some v) = refl

      by_test : (b : Bool) → is_some (seek x.0 t) ≡ b → seek w (if b then t else t ++ x ∷ []) ≡ option_or (seek w t) (seek w (x ∷ []))
      by_test true h = here (test w x.0) refl h ∙ ap (option_or (seek w t)) (sym (seek-cons w x []))
      by_test false h = seek-append w t (x ∷ [])

or_assoc : {V : Type 0} (a b c : Option V) → option_or (option_or a b) c ≡ option_or a (option_or b c)
or_assoc None b c = refl
or_assoc (Some a) b c = refl

behind_none : {V : Type 0} (o : Option V) → o ≡ option_or o None
behind_none None = refl
behind_none (Some v) = refl

-- what the table of first kinds says of a name is what the list says
pub beside-with_kinds : {V : Type 0} (w : List ℕ) (t new : List (List ℕ × V)) → beside w (with_kinds t new) ≡ option_or (beside w t) (beside w new)
beside-with_kinds w t [] = behind_none (beside w t)
beside-with_kinds w t (x ∷ new) =
    beside-with_kinds w (with_kind t x) new ∙ ap (λ o. option_or o (beside w new)) (seek-with same same_is w t x)
    ∙ or_assoc (beside w t) (beside w (x ∷ [])) (beside w new) ∙ ap (option_or (beside w t)) (sym (seek-append same w (x ∷ []) new))

pub beside-append : {V : Type 0} (w : List ℕ) (a b : List (List ℕ × V)) → beside w (a ++ b) ≡ option_or (beside w a) (beside w b)
beside-append w a b = seek-append same w a b

-- the test of a gap
abbrev pub is_gap : ℕ → ℕ → Bool
is_gap g h = h == g

pub same_gap : (g h : ℕ) → is_gap g h ≡ true → g ≡ h
same_gap g h e = sym (eqb-true h g e)

-- what the table of first kinds says of a gap is what the list says
pub gap_kind-with_uses : (g : ℕ) (t new : List (ℕ × GapKind)) → gap_kind (with_uses t new) g ≡ option_or (gap_kind t g) (gap_kind new g)
gap_kind-with_uses g t [] = behind_none (gap_kind t g)
gap_kind-with_uses g t (x ∷ new) =
    gap_kind-with_uses g (with_use t x) new ∙ ap (λ o. option_or o (gap_kind new g)) (seek-with is_gap same_gap g t x)
    ∙ or_assoc (gap_kind t g) (gap_kind (x ∷ []) g) (gap_kind new g) ∙ ap (option_or (gap_kind t g)) (sym (seek-append is_gap g (x ∷ []) new))

pub gap_kind-append : (g : ℕ) (a b : List (ℕ × GapKind)) → gap_kind (a ++ b) g ≡ option_or (gap_kind a g) (gap_kind b g)
gap_kind-append g a b = seek-append is_gap g a b

-- ---- names that are among others

missed : (names : List (List ℕ)) (w : List ℕ) → list_any (same w) names ≡ false → length names ≤ name_number names w
missed [] w h = omega arith
missed (m ∷ names) w h = by_test (same w m) h (missed names w)
  where
    by_test : (b : Bool) → (b || list_any (same w) names) ≡ false → (list_any (same w) names ≡ false → length names ≤ name_number names w)
        → length (m ∷ names) ≤ cond (not b) (1 + name_number names w) 0
    by_test true h ih = absurd (cc)
    by_test false h ih = omega (arith, ih h)

-- a name that has a place in the table is among its names
pub among_by_number : (names : List (List ℕ)) (w : List ℕ) → nat_lt (name_number names w) (length names) ≡ is_among w names
among_by_number names w = by_test (list_any (same w) names) refl
  where
    by_test : (b : Bool) → list_any (same w) names ≡ b → nat_lt (name_number names w) (length names) ≡ b
    by_test true e = lt-ltb (name_number names w) (length names) (known names w e)
    by_test false e = le-ltb (name_number names w) (length names) (missed names w e)

pub among-append : (w : List ℕ) (a b : List (List ℕ)) → is_among w (a ++ b) ≡ (is_among w a || is_among w b)
among-append w a b = list_any-append (same w) a b

among-with_name : (w n : List ℕ) (t : List (List ℕ)) → is_among w (with_name t n) ≡ (is_among w t || same w n)
among-with_name w n t = by_test (is_among n t) refl
  where
    here : (b : Bool) → same w n ≡ b → is_among n t ≡ true → is_among w t ≡ (is_among w t || b)
    here true e h = ap (λ k. is_among k t) (same_is w n e) ∙ h ∙ sym (ap (λ k. is_among k t || true) (same_is w n e) ∙ ap (λ b. b || true) h)
    here false e h = sym (or-false (is_among w t))

    by_test : (b : Bool) → is_among n t ≡ b → is_among w (if b then t else t ++ n ∷ []) ≡ (is_among w t || same w n)
    by_test true h = here (same w n) refl h
    by_test false h = among-append w t (n ∷ []) ∙ ap (λ b. is_among w t || b) (or-false (same w n))

-- a table has the names that were taken in, and those that it had
pub among-with_names : (w : List ℕ) (t new : List (List ℕ)) → is_among w (with_names t new) ≡ (is_among w t || is_among w new)
among-with_names w t [] = sym (or-false (is_among w t))
among-with_names w t (n ∷ new) =
    among-with_names w (with_name t n) new ∙ ap (λ b. b || is_among w new) (among-with_name w n t) ∙ bools.or_assoc (is_among w t) (same w n) (is_among w new)
