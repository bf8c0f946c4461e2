-- Tables of kinds.
use Rattle.std.proofs.Common.{◌≡◌, ◌≤◌, ◌+◌, ℕ, suc, Bool, true, false, cond, nat_eq, List, [], ◌∷◌, ◌++◌, length, Option, Some, None, refl, ap, sym, ◌∙◌, arith}
use Rattle.std.specs.Prelude.{◌==◌, not, is_some, if◌then◌else◌, option_map, find, slice_get}
use Rattle.std.specs.List.{zip}
use Rattle.std.proofs.lemmas.Bool.Decides.{nat_tests}
use Rattle.std.proofs.lemmas.List.{length-append}
use Rattle.bw_lang.specs.Table.Names.{same, beside, name_number, with_name}
use Rattle.bw_lang.proofs.TableLaws.{with_new}
use Rattle.bw_types.specs.declared.fault.GapKind.{GapKind}
use Rattle.bw_types.specs.Gaps.{gap_kind}
use Rattle.bw_types.specs.Tables.{with_kind, with_use}

one_more : (n : ℕ) → 1 + n ≡ suc n
one_more n = omega arith

-- the kind of a name stands at the name's number
pub kind_at : {A : Type 0} (w : List ℕ) (names : List (List ℕ)) (kinds : List A) → length names ≡ length kinds
    → slice_get kinds (name_number names w) ≡ beside w (zip names kinds)
kind_at w [] [] h = refl
kind_at w [] (k ∷ kinds) h = absurd (omega (arith, h))
kind_at w (m ∷ names) [] h = absurd (omega (arith, h))
kind_at {A = A} w (m ∷ names) (k ∷ kinds) h = by_test (same w m) (kind_at w names kinds (omega (arith, h)))
  where
    by_test : (b : Bool) → slice_get kinds (name_number names w) ≡ beside w (zip names kinds)
        → slice_get (k ∷ kinds) (cond (not b) (1 + name_number names w) 0)
        ≡ option_map (λ (x : List ℕ × A). x.1) (if b then Some (m, k) else find (λ x. same w x.0) (zip names kinds))
    by_test true ih = refl
    by_test false ih = ap (slice_get (k ∷ kinds)) (one_more (name_number names w)) ∙ ih

-- a name without a kind isn't there
pub no_kind : {A : Type 0} (w : List ℕ) (names : List (List ℕ)) (kinds : List A) → length names ≡ length kinds → beside w (zip names kinds) ≡ None
    → length names ≤ name_number names w
no_kind w [] kinds h e = omega arith
no_kind w (m ∷ names) [] h e = absurd (omega (arith, h))
no_kind {A = A} w (m ∷ names) (k ∷ kinds) h e = by_test (same w m) e (no_kind w names kinds (omega (arith, h)))
  where
    by_test : (b : Bool) → option_map (λ (x : List ℕ × A). x.1) (if b then Some (m, k) else find (λ x. same w x.0) (zip names kinds)) ≡ None
        → (beside w (zip names kinds) ≡ None → length names ≤ name_number names w)
        → length (m ∷ names) ≤ cond (not b) (1 + name_number names w) 0
    by_test true e ih = absurd (cc)
    by_test false e ih = let l = ih e in omega (arith, l)

zip_more : {A : Type 0} (names : List (List ℕ)) (kinds : List A) (w : List ℕ) (k : A) → length names ≡ length kinds
    → zip (names ++ w ∷ []) (kinds ++ k ∷ []) ≡ zip names kinds ++ (w, k) ∷ []
zip_more [] [] w k h = refl
zip_more [] (y ∷ kinds) w k h = absurd (omega (arith, h))
zip_more (m ∷ names) [] w k h = absurd (omega (arith, h))
zip_more (m ∷ names) (y ∷ kinds) w k h = ap (λ l. (m, y) ∷ l) (zip_more names kinds w k (omega (arith, h)))

pub absent : {A : Type 0} (o : Option A) → is_some o ≡ false → o ≡ None
absent None h = refl
absent (Some x) h = absurd (cc)

-- a gap that isn't there is taken in last
pub use_last : (t : List (ℕ × GapKind)) (g : ℕ) (k : GapKind) (o : Option GapKind) → o ≡ gap_kind t g → is_some o ≡ false → with_use t (g, k) ≡ t ++ (g, k) ∷ []
use_last t g k o p h = ap (λ (b : Bool). if b then t else t ++ (g, k) ∷ []) (ap is_some (sym p) ∙ h)

-- the kinds of a list with one more gap at its end
pub kinds_more : (t : List (ℕ × GapKind)) (g n : ℕ) (k : GapKind) → gap_kind t g ≡ None
    → gap_kind (t ++ (g, k) ∷ []) n ≡ cond (nat_eq g n) (Some k) (gap_kind t n)
kinds_more [] g n k h = alone (nat_eq g n)
  where
    alone : (b : Bool) → option_map (λ (x : ℕ × GapKind). x.1) (if b then Some (g, k) else None) ≡ cond b (Some k) None
    alone true = refl
    alone false = refl
kinds_more (e ∷ t) g n k h = by_test (nat_eq e.0 g) (nat_eq e.0 n) (nat_eq g n) refl refl refl h (kinds_more t g n k)
  where
    by_test : (a b c : Bool) → nat_eq e.0 g ≡ a → nat_eq e.0 n ≡ b → nat_eq g n ≡ c
        → option_map (λ (x : ℕ × GapKind). x.1) (if a then Some e else find (λ x. x.0 == g) t) ≡ None
        → (gap_kind t g ≡ None → gap_kind (t ++ (g, k) ∷ []) n ≡ cond c (Some k) (gap_kind t n))
        → option_map (λ (x : ℕ × GapKind). x.1) (if b then Some e else find (λ x. x.0 == n) (t ++ (g, k) ∷ []))
        ≡ cond c (Some k) (option_map (λ (x : ℕ × GapKind). x.1) (if b then Some e else find (λ x. x.0 == n) t))
    by_test true b c p q r h ih = absurd (cc)
    by_test false true true p q r h ih = absurd (grind (arith, nat_tests))
    by_test false true false p q r h ih = refl
    by_test false false true p q r h ih = ih h
    by_test false false false p q r h ih = ih h

-- both lists are longer by one
pub both_longer : {A : Type 0} (names : List (List ℕ)) (kinds : List A) (w : List ℕ) (k : A) (o : Option A) → length names ≡ length kinds
    → o ≡ beside w (zip names kinds) → is_some o ≡ false → length (with_name names w) ≡ length (kinds ++ k ∷ [])
both_longer names kinds w k o l p h =
    ap length (with_new names w (no_kind w names kinds l (sym p ∙ absent o h))) ∙ omega (arith, l, length-append names (w ∷ []), length-append kinds (k ∷ []))

-- a name that isn't there is taken in last
pub kind_last : {A : Type 0} (names : List (List ℕ)) (kinds : List A) (w : List ℕ) (k : A) (o : Option A) → length names ≡ length kinds
    → o ≡ beside w (zip names kinds) → is_some o ≡ false → zip (with_name names w) (kinds ++ k ∷ []) ≡ with_kind (zip names kinds) (w, k)
kind_last {A = A} names kinds w k o l p h =
    ap (λ t. zip t (kinds ++ k ∷ [])) (with_new names w (no_kind w names kinds l (sym p ∙ absent o h)))
    ∙ zip_more names kinds w k l
    ∙ ap (λ (b : Bool). if b then zip names kinds else zip names kinds ++ (w, k) ∷ []) (sym (ap is_some (sym p) ∙ h))
