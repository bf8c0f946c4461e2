-- Lists that begin alike.
use Rattle.std.proofs.Common.{◌≡◌, ℕ, ◌<◌, ◌≤◌, List, ◌++◌, length, take, drop, refl, sym, ap, ◌∙◌, arith, append_assoc}
use Rattle.std.proofs.lemmas.List.{take_at, drop_at, take-append-le, take-append-drop, length-drop}
use Rattle.bw_journal.specs.Reading.{IsCut, NeverBegins}

pub same_front : {A : Type 0} (a b x y : List A) → length a ≡ length b → a ++ x ≡ b ++ y → (a ≡ b) × (x ≡ y)
same_front {A} a b x y len e =
    let front : List A → List A = take (length b) in
    let back : List A → List A = drop (length b) in
    (sym (take_at a x (length b) len) ∙ ap front e ∙ take_at b y (length b) refl, sym (drop_at a x (length b) len) ∙ ap back e ∙ drop_at b y (length b) refl)

pub cut_is : (want bytes : List ℕ) → length bytes < length want → bytes ≡ take (length bytes) want → IsCut want bytes
cut_is want bytes lt e =
    let n = length bytes in
    record {
      more = drop n want;
      some = omega (arith, length-drop n want);
      whole = ap (λ (b : List ℕ). b ++ drop n want) e ∙ take-append-drop n want;
    }

pub parts_short : (want bytes : List ℕ) → length bytes ≤ length want → (bytes ≡ take (length bytes) want → ⊥) → NeverBegins want bytes
parts_short want bytes le never x y e =
    let n = length bytes in
    let front : List ℕ → List ℕ = take n in
    never (sym (take_at bytes x n refl) ∙ ap front e ∙ take-append-le n want y le)

pub parts_long : (want bytes front rest : List ℕ) → length front ≡ length want → bytes ≡ front ++ rest → (front ≡ want → ⊥) → NeverBegins want bytes
parts_long want bytes front rest len is never x y e =
    never (same_front front want (rest ++ x) y len (sym (append_assoc front rest x) ∙ ap (λ (b : List ℕ). b ++ x) (sym is) ∙ e)).0
