-- Changes of rows, one after another.
use Rattle.std.proofs.Common.{◌≡◌, ℕ, ◌+◌, ◌<◌, min, Bool, true, false, ◌||◌, ◌&&◌, List, length, get_or, replicate, refl, ap, sym, ◌∙◌, arith}
use Rattle.std.specs.Prelude.{nat_lt}
use Rattle.std.proofs.lemmas.List.{get_or-replicate, length-replicate, get_or_default}
use Rattle.std.proofs.lemmas.Bool.Decides.{nat_tests}
use Rattle.bw_shape.specs.Rows.Rows.{flag}
use Rattle.bw_shape.specs.Rows.Changes.{Sets, Clears, Rises}
use Rattle.std.proofs.Math.Bool.{or-false, and-true, or_assoc, and_assoc}

-- nothing was done
pub sets_none : {row : List Bool} {test : ℕ → Bool} → ((c : ℕ) → test c ≡ false) → Sets row row test
sets_none {row = row} h = record { len = refl; each = λ c l. sym (or-false (flag row c)) ∙ ap (λ b. flag row c || b) (sym (h c)) }

pub clears_none : {row : List Bool} {test : ℕ → Bool} → ((c : ℕ) → test c ≡ true) → Clears row row test
clears_none {row = row} h = record { len = refl; each = λ c l. sym (and-true (flag row c)) ∙ ap (λ b. flag row c && b) (sym (h c)) }

-- one change and then another
pub sets_then : {a b c : List Bool} {p q r : ℕ → Bool} → Sets a b p → Sets b c q → ((k : ℕ) → r k ≡ (p k || q k)) → Sets a c r
sets_then {a = a} {b = b} {c = c} {p = p} {q = q} {r = r} s t h = record {
  len = t.len ∙ s.len;
  each = λ k l. let m : k < length b = omega (arith, l, s.len) in
      t.each k m ∙ ap (λ x. x || q k) (s.each k l) ∙ or_assoc (flag a k) (p k) (q k) ∙ ap (λ x. flag a k || x) (sym (h k));
}

pub clears_then : {a b c : List Bool} {p q r : ℕ → Bool} → Clears a b p → Clears b c q → ((k : ℕ) → r k ≡ (p k && q k)) → Clears a c r
clears_then {a = a} {b = b} {c = c} {p = p} {q = q} {r = r} s t h = record {
  len = t.len ∙ s.len;
  each = λ k l. let m : k < length b = omega (arith, l, s.len) in
      t.each k m ∙ ap (λ x. x && q k) (s.each k l) ∙ and_assoc (flag a k) (p k) (q k) ∙ ap (λ x. flag a k && x) (sym (h k));
}

pub sets_as : {a b : List Bool} {p q : ℕ → Bool} → Sets a b p → ((k : ℕ) → q k ≡ p k) → Sets a b q
sets_as {a = a} s h = record { len = s.len; each = λ k l. s.each k l ∙ ap (λ x. flag a k || x) (sym (h k)) }

pub clears_as : {a b : List Bool} {p q : ℕ → Bool} → Clears a b p → ((k : ℕ) → q k ≡ p k) → Clears a b q
clears_as {a = a} s h = record { len = s.len; each = λ k l. s.each k l ∙ ap (λ x. flag a k && x) (sym (h k)) }

pub rises_then : {a b c : List ℕ} {p q r : ℕ → ℕ} → Rises a b p → Rises b c q → ((k : ℕ) → r k ≡ p k + q k) → Rises a c r
rises_then {a = a} {b = b} {c = c} {p = p} {q = q} {r = r} s t h = record {
  len = t.len ∙ s.len;
  each = λ k l. let m : k < length b = omega (arith, l, s.len) in
      let x = s.each k l in let y = t.each k m in let z = h k in omega (arith, x, y, z);
}

pub two_of : (new places : ℕ) → min new 2 ≡ min (0 + places) 2 → nat_lt 1 new ≡ nat_lt 1 places
two_of new places h = grind (arith, nat_tests)

-- a row that was clear
pub sets_fresh : (w : ℕ) (row new : List Bool) (test : ℕ → Bool) → row ≡ replicate w false → Sets row new test → (k : ℕ) → k < w → flag new k ≡ test k
sets_fresh w row new test e s k l =
    let n : length row ≡ w = ap length e ∙ length-replicate w false in
    let m : k < length row = omega (arith, l, n) in
    s.each k m ∙ ap (λ b. b || test k) (ap (λ r. flag r k) e ∙ get_or-replicate w k false false l)

pub rises_fresh : (w : ℕ) (old new : List ℕ) (by : ℕ → ℕ) → old ≡ replicate w 0 → Rises old new by → (k : ℕ) → k < w
    → nat_lt 1 (get_or new k 0) ≡ nat_lt 1 (by k)
rises_fresh w old new by e s k l =
    let n : length old ≡ w = ap length e ∙ length-replicate w 0 in
    let m : k < length old = omega (arith, l, n) in
    two_of (get_or new k 0) (by k) (s.each k m ∙ ap (λ x. min (x + by k) 2) (ap (λ r. get_or r k 0) e ∙ get_or-replicate w k 0 0 l))

-- what was read at a place, whatever stands past the end
pub read : {X : Type 0} (xs : List X) (n : ℕ) (x d : X) → n < length xs → x ≡ get_or xs n x → x ≡ get_or xs n d
read xs n x d l e = e ∙ get_or_default xs n x d l
