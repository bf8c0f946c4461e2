-- Lists of which some or all members pass a test.
use Rattle.std.proofs.Common.{◌≡◌, inl, inr, ℕ, zero, suc, ◌<◌, Bool, true, false, ◌||◌, ◌&&◌, List, [], ◌∷◌, length, get_or, refl, sym, ap, ◌∙◌, arith}
use Rattle.std.specs.List.{list_any, list_all, Contains}
use Rattle.std.proofs.lemmas.Bool.{false≢true, and_parts, cases_Bool, or_cases, or_left, or_right}
use Rattle.std.proofs.lemmas.Slice.Eq.{bytes_eq-Decides}
use Rattle.bw_lang.specs.Table.Names.{same}

-- a member that fails a test that not all pass, and one that passes a test that some pass
pub fails_at : {X : Type 0} (p : X → Bool) (xs : List X) → list_all p xs ≡ false → (x : X) × Contains xs x × (p x ≡ false)
fails_at p [] h = absurd (false≢true (sym h))
fails_at p (x ∷ xs) h = elim (cases_Bool (p x)) [
  | inl it ↦ let r = fails_at p xs (sym (ap (λ b. b && list_all p xs) it) ∙ h) in (r.0, (suc r.1.0, omega (arith, r.1.1), r.1.2), r.2)
  | inr isnt ↦ (x, (0, omega arith, refl), isnt)
]

pub passes_at : {X : Type 0} (p : X → Bool) (xs : List X) → list_any p xs ≡ true → (x : X) × Contains xs x × (p x ≡ true)
passes_at p [] h = absurd (false≢true h)
passes_at p (x ∷ xs) h = elim (or_cases (p x) (list_any p xs) h) [
  | inl it ↦ (x, (0, omega arith, refl), it)
  | inr it ↦ let r = passes_at p xs it in (r.0, (suc r.1.0, omega (arith, r.1.1), r.1.2), r.2)
]

at_all : {X : Type 0} (p : X → Bool) (xs : List X) (k : ℕ) (x : X) → k < length xs → get_or xs k x ≡ x → list_all p xs ≡ true → p x ≡ true
at_all p [] k x l e h = absurd (omega arith)
at_all p (y ∷ xs) zero x l e h = ap p (sym e) ∙ (and_parts (p y) (list_all p xs) h).0
at_all p (y ∷ xs) (suc k) x l e h = at_all p xs k x (omega (arith, l)) e (and_parts (p y) (list_all p xs) h).1

pub all_at : {X : Type 0} (p : X → Bool) (xs : List X) (x : X) → Contains xs x → list_all p xs ≡ true → p x ≡ true
all_at p xs x c h = at_all p xs c.0 x c.1 c.2 h

at_any : {X : Type 0} (p : X → Bool) (xs : List X) (k : ℕ) (x : X) → k < length xs → get_or xs k x ≡ x → p x ≡ true → list_any p xs ≡ true
at_any p [] k x l e h = absurd (omega arith)
at_any p (y ∷ xs) zero x l e h = or_left (p y) (list_any p xs) (ap p e ∙ h)
at_any p (y ∷ xs) (suc k) x l e h = or_right (p y) (list_any p xs) (at_any p xs k x (omega (arith, l)) e h)

pub any_at : {X : Type 0} (p : X → Bool) (xs : List X) (x : X) → Contains xs x → p x ≡ true → list_any p xs ≡ true
any_at p xs x c h = at_any p xs c.0 x c.1 c.2 h

pub same_itself : (s : List ℕ) → same s s ≡ true
same_itself s = (bytes_eq-Decides s s).1 refl
