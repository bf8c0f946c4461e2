-- As many as there are, one after the other.
use Rattle.std.proofs.Common.{◌≡◌, ℕ, zero, suc, ◌<◌, ◌≤◌, List, [], ◌∷◌, ◌++◌, length, take, drop, Option, Some, None, refl, sym}
use Rattle.std.proofs.Common.{ap, ◌∙◌, arith, append_assoc}
use Rattle.std.specs.Prelude.{nat_eq}
use Rattle.std.specs.Cmp.Lexicographic.{same_text}
use Rattle.std.proofs.lemmas.List.{take_at, drop_at, take-append-drop, append-nil}
use lib.Pointwise.{pointwise}
use Rattle.bw_tmpl.specs.Steps.Reading.{stripped, many_next, many, each}
use Rattle.bw_lang.proofs.SameNames.{same_self}
use Rattle.bw_lang.proofs.Options.{cond_some}

-- ---- fronts

pub stripped_is : (front bytes rest : List ℕ) → stripped front bytes ≡ Some rest → bytes ≡ front ++ rest
stripped_is front bytes rest h =
    let c = cond_some (pointwise nat_eq (take (length front) bytes) front) (drop (length front) bytes) rest h in
    sym (take-append-drop (length front) bytes)
    ∙ ap (λ (f : List ℕ). f ++ drop (length front) bytes) (same_text (take (length front) bytes) front (sym c.0)) ∙ ap (λ (r : List ℕ). front ++ r) c.1

pub stripped_again : (front rest : List ℕ) → stripped front (front ++ rest) ≡ Some rest
stripped_again front rest = rw (take_at front rest (length front) refl, same_self front, drop_at front rest (length front) refl) refl

-- ---- many

pub record Shrinks {A : Type 0} (step : List ℕ → Option (A × List ℕ)) : Type 0 where
  pub less : (bytes : List ℕ) (x : A × List ℕ) → step bytes ≡ Some x → length x.1 < length bytes

many_fuel : {A : Type 0} (step : List ℕ → Option (A × List ℕ)) → Shrinks step → (m n : ℕ) (bytes : List ℕ) → length bytes ≤ m → length bytes ≤ n
    → many step m bytes ≡ many step n bytes
unfolding many
many_fuel step s zero zero bytes p q = refl
many_fuel step s zero (suc n) bytes p q = nothing (step bytes) refl
  where
    nothing : (o : Option _) → step bytes ≡ o → ([], bytes) ≡ many_next o bytes (many step n)
    nothing None e = refl
    nothing (Some x) e = absurd (omega (arith, s.less bytes x e))
many_fuel step s (suc m) zero bytes p q = nothing (step bytes) refl
  where
    nothing : (o : Option _) → step bytes ≡ o → many_next o bytes (many step m) ≡ ([], bytes)
    nothing None e = refl
    nothing (Some x) e = absurd (omega (arith, s.less bytes x e))
many_fuel step s (suc m) (suc n) bytes p q = one (step bytes) refl (many_fuel step s m n)
  where
    one : (o : Option _) → step bytes ≡ o → ((bs : List ℕ) → length bs ≤ m → length bs ≤ n → many step m bs ≡ many step n bs)
        → many_next o bytes (many step m) ≡ many_next o bytes (many step n)
    one None e ih = refl
    one (Some x) e ih = ap (λ (t : _). (x.0 ∷ t.0, t.1)) (ih x.1 (omega (arith, s.less bytes x e)) (omega (arith, s.less bytes x e)))

abbrev pub put : {A : Type 0} → A → List A × List ℕ → List A × List ℕ
put x t = (x ∷ t.0, t.1)

many_suc : {A : Type 0} (step : List ℕ → Option (A × List ℕ)) (n : ℕ) (bytes : List ℕ) → many step (suc n) bytes ≡ many_next (step bytes) bytes (many step n)
unfolding many
many_suc step n bytes = refl

next_is : {A : Type 0} (o r : Option (A × List ℕ)) (bytes : List ℕ) (go : List ℕ → List A × List ℕ) → o ≡ r → many_next o bytes go ≡ many_next r bytes go
next_is o r bytes go e = λ i. many_next (e i) bytes go

-- one more, and no more
pub each_more : {A : Type 0} (step : List ℕ → Option (A × List ℕ)) → Shrinks step → (bytes : List ℕ) (x : A × List ℕ) → step bytes ≡ Some x
    → each step bytes ≡ put x.0 (each step x.1)
each_more step s bytes x e =
    let a : many step (length bytes) bytes ≡ many step (suc (length bytes)) bytes =
    many_fuel step s (length bytes) (suc (length bytes)) bytes (omega arith) (omega arith) in
    let b : many_next (step bytes) bytes (many step (length bytes)) ≡ put x.0 (many step (length bytes) x.1) =
    next_is (step bytes) (Some x) bytes (many step (length bytes)) e in
    let c : many step (length bytes) x.1 ≡ each step x.1 = many_fuel step s (length bytes) (length x.1) x.1 (omega (arith, s.less bytes x e)) (omega arith) in
    a ∙ many_suc step (length bytes) bytes ∙ b ∙ ap (put x.0) c

pub each_none : {A : Type 0} (step : List ℕ → Option (A × List ℕ)) → Shrinks step → (bytes : List ℕ) → step bytes ≡ None → each step bytes ≡ ([], bytes)
each_none step s bytes e =
    let a : many step (length bytes) bytes ≡ many step (suc (length bytes)) bytes =
    many_fuel step s (length bytes) (suc (length bytes)) bytes (omega arith) (omega arith) in
    a ∙ many_suc step (length bytes) bytes ∙ next_is (step bytes) None bytes (many step (length bytes)) e

-- what was read before, and what is still read
abbrev pub onto : {A : Type 0} → List A → List A × List ℕ → List A × List ℕ
onto front t = (front ++ t.0, t.1)

pub onto_more : {A : Type 0} (step : List ℕ → Option (A × List ℕ)) → Shrinks step
    → (front : List A) (bytes : List ℕ) (x : A) (rest : List ℕ) (total : List A × List ℕ) → step bytes ≡ Some (x, rest)
    → onto front (each step bytes) ≡ total → onto (front ++ x ∷ []) (each step rest) ≡ total
onto_more step s front bytes x rest total e h =
    let t = each step rest in
    let a : onto (front ++ x ∷ []) t ≡ onto front (put x t) = λ i. (append_assoc front (x ∷ []) t.0 i, t.1) in
    let b : onto front (each step bytes) ≡ onto front (put x t) = ap (onto front) (each_more step s bytes (x, rest) e) in a ∙ sym b ∙ h

pub onto_none : {A : Type 0} (step : List ℕ → Option (A × List ℕ)) → Shrinks step → (front : List A) (bytes : List ℕ) (total : List A × List ℕ)
    → step bytes ≡ None → onto front (each step bytes) ≡ total → total ≡ (front, bytes)
onto_none step s front bytes total e h =
    let a : onto front (each step bytes) ≡ onto front ([], bytes) = ap (onto front) (each_none step s bytes e) in
    let b : onto front ([], bytes) ≡ (front, bytes) = λ i. (append-nil front i, bytes) in sym h ∙ a ∙ b
