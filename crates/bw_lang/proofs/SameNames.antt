-- When names are the same.
use Rattle.std.proofs.Common.{◌≡◌, ℕ, Bool, true, false, List, refl, sym, subst}
use Rattle.std.proofs.lemmas.Slice.Eq.{bytes_eq-Decides}
use Rattle.bw_lang.specs.Table.Names.{same}

-- names with the same bytes are the same
pub same_is : (a b : List ℕ) → same a b ≡ true → a ≡ b
same_is a b h = (bytes_eq-Decides a b).0 h

pub same_self : (a : List ℕ) → same a a ≡ true
same_self a = (bytes_eq-Decides a a).1 refl

pub same_turned : (a b : List ℕ) → same a b ≡ true → same b a ≡ true
same_turned a b h = subst (λ x. same x a ≡ true) (same_is a b h) (same_self a)

-- two tests are one where each holds with the other
pub is_true : (b c : Bool) → (b ≡ true → c ≡ true) → (c ≡ true → b ≡ true) → b ≡ c
is_true true c f g = sym (f refl)
is_true false true f g = g refl
is_true false false f g = refl

pub same_sym : (a b : List ℕ) → same a b ≡ same b a
same_sym a b = is_true (same a b) (same b a) (same_turned a b) (same_turned b a)
