-- Runs of bytes and names: what is read is spelled so, and what is spelled so is read.
use Rattle.std.proofs.Common.{◌≡◌, ℕ, suc, Bool, true, false, List, [], ◌∷◌, ◌++◌, length, take, drop, Some, None, refl}
use Rattle.std.proofs.Common.{sym, ap, subst, ◌∙◌, arith}
use Rattle.std.specs.Prelude.{if◌then◌else◌, ◌&&◌}
use Rattle.std.proofs.lemmas.List.{take-append-drop, take_at, drop_at}
use Rattle.std.proofs.lemmas.Bool.{and_parts}
use Rattle.std.proofs.lemmas.Bool.Decides.{nat_tests}
use Rattle.bw_lang.specs.declared.pieces.NameClass.{NameClass}
use Rattle.bw_lang.specs.declared.pieces.NameClass.TheVariants as class
use Rattle.bw_tmpl.specs.Steps.Reading.{leading, past_blanks, name_at}
use Rattle.bw_lang.specs.Text.Bytes.{is_blank}
use Rattle.bw_lang.specs.Template.MarkupNames.{begins, first_of, later_of}
use Rattle.bw_lang.specs.Template.Pieces.{passes, IsNameOf}
use Rattle.bw_lang.proofs.Options.{cond_some}

-- ---- runs

leading_none : (p : ℕ → Bool) (rest : List ℕ) → begins p rest ≡ false → leading p rest ≡ 0
leading_none p [] h = refl
leading_none p (b ∷ bs) h = ap (λ (v : Bool). if v then suc (leading p bs) else 0) h

pub leading_at : (p : ℕ → Bool) (n rest : List ℕ) → passes p n ≡ true → begins p rest ≡ false → leading p (n ++ rest) ≡ length n
leading_at p [] rest h e = leading_none p rest e
leading_at p (b ∷ n) rest h e =
    let k = and_parts (p b) (passes p n) h in
    ap (λ (v : Bool). if v then suc (leading p (n ++ rest)) else 0) k.0 ∙ ap suc (leading_at p n rest k.1 e)

pub leading_front : (p : ℕ → Bool) (bs : List ℕ) → passes p (take (leading p bs) bs) ≡ true
leading_front p [] = refl
leading_front p (b ∷ bs) = one (p b) refl (leading_front p bs)
  where
    one : (v : Bool) → p b ≡ v → passes p (take (leading p bs) bs) ≡ true → passes p (take (if v then suc (leading p bs) else 0) (b ∷ bs)) ≡ true
    one true e ih = ap (λ (v : Bool). v && passes p (take (leading p bs) bs)) e ∙ ih
    one false e ih = refl

leading_behind : (p : ℕ → Bool) (bs : List ℕ) → begins p (drop (leading p bs) bs) ≡ false
leading_behind p [] = refl
leading_behind p (b ∷ bs) = one (p b) refl (leading_behind p bs)
  where
    one : (v : Bool) → p b ≡ v → begins p (drop (leading p bs) bs) ≡ false → begins p (drop (if v then suc (leading p bs) else 0) (b ∷ bs)) ≡ false
    one true e ih = ih
    one false e ih = e

pub past_is : (w rest : List ℕ) → passes is_blank w ≡ true → begins is_blank rest ≡ false → past_blanks (w ++ rest) ≡ rest
past_is w rest h e = ap (λ (n : ℕ). drop n (w ++ rest)) (leading_at is_blank w rest h e) ∙ drop_at w rest (length w) refl

-- ---- names

first_later : (k : NameClass) (c : ℕ) → first_of k c ≡ true → later_of k c ≡ true
first_later class.Tag c h = grind (arith, nat_tests)
first_later class.Attr c h = grind (arith, nat_tests)
first_later class.Word c h = grind (arith, nat_tests)

first_leading : (k : NameClass) (bs : List ℕ) → begins (first_of k) bs ≡ true → begins (first_of k) (take (leading (later_of k) bs) bs) ≡ true
first_leading k [] h = h
first_leading k (b ∷ bs) h = ap (λ (v : Bool). begins (first_of k) (take (if v then suc (leading (later_of k) bs) else 0) (b ∷ bs))) (first_later k b h) ∙ h

pub record Named (k : NameClass) (bytes n rest : List ℕ) : Type 0 where
  pub name : IsNameOf k n
  pub parts : bytes ≡ n ++ rest
  pub behind : begins (later_of k) rest ≡ false

pub name_is : (k : NameClass) (bytes : List ℕ) (x : List ℕ × List ℕ) → name_at k bytes ≡ Some x → Named k bytes x.0 x.1
name_is k bytes x h =
    let n = leading (later_of k) bytes in
    let c = cond_some (begins (first_of k) bytes) (take n bytes, drop n bytes) x h in
    let made : Named k bytes (take n bytes) (drop n bytes) =
    record {
      name = record { first = first_leading k bytes c.0; later = leading_front (later_of k) bytes };
      parts = sym
          (take-append-drop n bytes);
      behind = leading_behind (later_of k) bytes;
    } in
    subst (λ (y : List ℕ × List ℕ). Named k bytes y.0 y.1) c.1 made

pub begins_with_append : (p : ℕ → Bool) (n rest : List ℕ) → begins p n ≡ true → begins p (n ++ rest) ≡ true
begins_with_append p [] rest h = absurd (cc)
begins_with_append p (b ∷ n) rest h = h

pub name_written : (k : NameClass) (n rest : List ℕ) → IsNameOf k n → begins (later_of k) rest ≡ false → name_at k (n ++ rest) ≡ Some (n, rest)
name_written k n rest h e =
    let r : leading (later_of k) (n ++ rest) ≡ length n = leading_at (later_of k) n rest h.later e in
    let s : begins (first_of k) (n ++ rest) ≡ true = begins_with_append (first_of k) n rest h.first in
    let t : take (leading (later_of k) (n ++ rest)) (n ++ rest) ≡ n = ap (λ (i : ℕ). take i (n ++ rest)) r ∙ take_at n rest (length n) refl in
    let d : drop (leading (later_of k) (n ++ rest)) (n ++ rest) ≡ rest = ap (λ (i : ℕ). drop i (n ++ rest)) r ∙ drop_at n rest (length n) refl in
    ap (λ (v : Bool). if v then Some (take (leading (later_of k) (n ++ rest)) (n ++ rest), drop (leading (later_of k) (n ++ rest)) (n ++ rest)) else None) s
    ∙ (λ i. Some (t i, d i))
