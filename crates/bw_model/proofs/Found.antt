-- A live session is found, and taken out from among the others.
use Rattle.std.proofs.Common.{◌≡◌, ℕ, Bool, true, false, cond, List, [], ◌∷◌, Option, Some, None, refl, sym, ap, ◌∙◌}
use Rattle.std.specs.Prelude.{◌==◌, ◌&&◌, if◌then◌else◌, find}
use Rattle.std.specs.List.{AllByRecursion}
use Rattle.std.specs.Option.{option_map}
use Rattle.std.proofs.lemmas.Bool.{and_parts, eqb-true, eq-eqb}
use Rattle.bw_model.specs.Sessions.{Live}
use Rattle.bw_model.specs.Steps.{is_of, taken_out}

-- the session m is the first of this number and key, and the others are these
pub data Out (number key : ℕ) : List Live → Live → List Live → Type 0 where
  here : (l : Live) (ls : List Live) → is_of number key l ≡ true → Out number key (l ∷ ls) l ls
  later : (l m : Live) (ls others : List Live) → is_of number key l ≡ false → Out number key ls m others → Out number key (l ∷ ls) m (l ∷ others)

-- the session that is taken out and the others, or there is none
pub data IsOut (number key : ℕ) (ls : List Live) : Option (Live × List Live) → Type 0 where
  no_session : find (is_of number key) ls ≡ None → IsOut number key ls None
  session : (m : Live) (others : List Live) → Out number key ls m others → IsOut number key ls (Some (m, others))

pub out : (number key : ℕ) (ls : List Live) → IsOut number key ls (taken_out number key ls)
out number key [] = no_session refl
out number key (l ∷ ls) = front (is_of number key l) (taken_out number key ls) refl (out number key ls)
  where
    front : (b : Bool) (o : Option (Live × List Live)) → is_of number key l ≡ b → IsOut number key ls o →
        IsOut number key (l ∷ ls) (if b then Some (l, ls) else option_map (λ (found : Live × List Live). (found.0, l ∷ found.1)) o)
    front true o e h = session l ls (here l ls e)
    front false _ e (no_session n) = no_session (ap (λ b. cond b (Some l) (find (is_of number key) ls)) e ∙ n)
    front false _ e (session m others h) = session m (l ∷ others) (later l m ls others e h)

-- it is the one that is found
pub found : (number key : ℕ) (ls : List Live) (m : Live) (others : List Live) → Out number key ls m others → find (is_of number key) ls ≡ Some m
found number key _ _ _ (here l ls e) = ap (λ b. cond b (Some l) (find (is_of number key) ls)) e
found number key _ _ _ (later l m ls others e h) =
    ap (λ b. cond b (Some l) (find (is_of number key) ls)) e ∙ found number key ls m others h

-- it has the number and the key

pub has_number : (number key : ℕ) (l : Live) → is_of number key l ≡ true → l.number ≡ number
has_number number key l e = eqb-true l.number number (and_parts (l.number == number) (l.key == key) e).0

pub has_key : (number key : ℕ) (l : Live) → is_of number key l ≡ true → l.key ≡ key
has_key number key l e = eqb-true l.key key (and_parts (l.number == number) (l.key == key) e).1

pub out_is : (number key : ℕ) (ls : List Live) (m : Live) (others : List Live) → Out number key ls m others → is_of number key m ≡ true
out_is number key _ _ _ (here l ls e) = e
out_is number key _ _ _ (later l m ls others e h) = out_is number key ls m others h

-- what holds of all holds of it and of the others
pub out_all : (P : Live → Type 0) (number key : ℕ) (ls : List Live) (m : Live) (others : List Live) → Out number key ls m others →
    AllByRecursion P ls → P m × AllByRecursion P others
out_all P number key _ _ _ (here l ls e) a = a
out_all P number key _ _ _ (later l m ls others e h) a = let b = out_all P number key ls m others h a.1 in (b.0, (a.0, b.1))

-- ---- another session

both_same : (a b c d : ℕ) → a ≡ b → c ≡ d → (a == b && c == d) ≡ false → ⊥
both_same a b c d e f differ = let x = eq-eqb a b e in let y = eq-eqb c d f in cc

-- what has the one number and key hasn't the other
pub another : (number key n k : ℕ) (l : Live) → (number == n && key == k) ≡ false → is_of n k l ≡ true → is_of number key l ≡ false
another number key n k l d e = other (is_of number key l) refl
  where
    other : (b : Bool) → is_of number key l ≡ b → b ≡ false
    other true f =
        absurd (both_same number n key k (sym (has_number number key l f) ∙ has_number n k l e) (sym (has_key number key l f) ∙ has_key n k l e) d)
    other false f = refl

-- the first of another number and key is the same without it
pub others_found : (number key n k : ℕ) → (number == n && key == k) ≡ false → (ls : List Live) (m : Live) (others : List Live) → Out n k ls m others →
    find (is_of number key) others ≡ find (is_of number key) ls
others_found number key n k d _ _ _ (here l ls e) = sym (ap (λ b. cond b (Some l) (find (is_of number key) ls)) (another number key n k l d e))
others_found number key n k d _ _ _ (later l m ls others e h) =
    ap (λ o. cond (is_of number key l) (Some l) o) (others_found number key n k d ls m others h)
