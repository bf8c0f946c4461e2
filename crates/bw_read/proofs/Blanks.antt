-- What is cut off a page: blanks in front, a document type, blanks at the end.
use Rattle.std.proofs.Common.{◌≡◌, ◌≤◌, ◌<◌, ◌+◌, ◌-◌, ℕ, Bool, true, false, List, [], ◌∷◌, ◌++◌}
use Rattle.std.proofs.Common.{length, take, get_or, Option, Some, None, refl, sym, ap, ◌∙◌, arith, inl, inr}
use Rattle.std.specs.Prelude.{if◌then◌else◌, ◌&&◌, codes}
use Rattle.std.proofs.lemmas.List.{append_assoc, take-append-drop, take_more}
use Rattle.std.proofs.lemmas.Bool.{and_parts}
use Rattle.bw_lang.specs.Text.Bytes.{is_blank}
use Rattle.bw_lang.specs.Template.MarkupNames.{begins}
use Rattle.bw_lang.specs.Template.Pieces.{passes}
use Rattle.bw_lang.specs.Table.Options.{where_some}
use Rattle.bw_tmpl.specs.Steps.Reading.{leading, past_blanks, stripped}
use Rattle.bw_tmpl.proofs.Many.{stripped_is, stripped_again}
use Rattle.bw_tmpl.proofs.SpelledNames.{leading_front, past_is}
use Rattle.bw_read.specs.Element.{past_doctype, unless_last, trimmed}
use Rattle.bw_read.specs.Pages.{AreBlanks, IsDoctype}

-- ---- blanks at the end

unless_not_last : (x : ℕ) (bytes : List ℕ) (b : ℕ) → unless_last x (bytes ++ b ∷ []) ≡ x ∷ (bytes ++ b ∷ [])
unless_not_last x [] b = refl
unless_not_last x (y ∷ bytes) b = refl

trimmed-push : (bytes : List ℕ) (b : ℕ) → trimmed (bytes ++ b ∷ []) ≡ (if is_blank b then trimmed bytes else bytes ++ b ∷ [])
trimmed-push [] b = refl
trimmed-push (x ∷ bytes) b = ap (unless_last x) (trimmed-push bytes b) ∙ by_test (is_blank b)
  where
    by_test : (t : Bool) → unless_last x (if t then trimmed bytes else bytes ++ b ∷ []) ≡ (if t then trimmed (x ∷ bytes) else x ∷ (bytes ++ b ∷ []))
    by_test true = refl
    by_test false = unless_not_last x bytes b

trimmed_at : (bytes : List ℕ) (n : ℕ) → n < length bytes
    → trimmed (take (n + 1) bytes) ≡ (if is_blank (get_or bytes n 0) then trimmed (take n bytes) else take (n + 1) bytes)
trimmed_at bytes n h =
    let e = take_more bytes n 0 h in
    ap trimmed e ∙ trimmed-push (take n bytes) (get_or bytes n 0)
    ∙ ap (λ (t : List ℕ). if is_blank (get_or bytes n 0) then trimmed (take n bytes) else t) (sym e)

-- a blank at the end is cut off
pub trim_shorter : (bytes : List ℕ) (n : ℕ) → 0 < n → n ≤ length bytes → is_blank (get_or bytes (n - 1) 0) ≡ true
    → trimmed (take (n - 1) bytes) ≡ trimmed (take n bytes)
trim_shorter bytes n some within blank =
    let back : n - 1 + 1 ≡ n = omega arith in
    let h : n - 1 < length bytes = omega arith in
    sym (ap (λ (k : ℕ). trimmed (take k bytes)) (sym back) ∙ trimmed_at bytes (n - 1) h
    ∙ ap (λ (b : Bool). if b then trimmed (take (n - 1) bytes) else take (n - 1 + 1) bytes) blank)

-- and no other byte is
pub trim_stops : (bytes : List ℕ) (n : ℕ) → 0 < n → n ≤ length bytes → is_blank (get_or bytes (n - 1) 0) ≡ false → trimmed (take n bytes) ≡ take n bytes
trim_stops bytes n some within blank =
    let back : n - 1 + 1 ≡ n = omega arith in
    let h : n - 1 < length bytes = omega arith in
    ap (λ (k : ℕ). trimmed (take k bytes)) (sym back) ∙ trimmed_at bytes (n - 1) h
    ∙ ap (λ (b : Bool). if b then trimmed (take (n - 1) bytes) else take (n - 1 + 1) bytes) blank ∙ ap (λ (k : ℕ). take k bytes) back

-- where all is cut off nothing is left
pub trim_all : (bytes : List ℕ) (n : ℕ) → n ≡ 0 → trimmed (take n bytes) ≡ trimmed bytes → take n bytes ≡ trimmed bytes
trim_all bytes n e h =
    let none : take n bytes ≡ [] = ap (λ (k : ℕ). take k bytes) e in
    none ∙ sym (ap trimmed none) ∙ h

-- the bytes are what is left and the blanks that are cut off
pub record Trimmed (bytes rest : List ℕ) : Type 0 where
  pub blanks : List ℕ
  pub are : AreBlanks blanks
  pub parts : bytes ≡ rest ++ blanks

pub trimmed_parts : (bytes : List ℕ) → Trimmed bytes (trimmed bytes)
trimmed_parts [] = record { blanks = []; are = refl; parts = refl }
trimmed_parts (b ∷ bytes) = by_rest (trimmed bytes) (trimmed_parts bytes)
  where
    by_test : (t : Bool) → is_blank b ≡ t → Trimmed bytes [] → Trimmed (b ∷ bytes) (if t then [] else b ∷ [])
    by_test true e p = record {
      blanks = b ∷ p.blanks;
      are = ap (λ (v : Bool). v && passes is_blank p.blanks) e ∙ p.are;
      parts = ap (λ (l : List ℕ). b ∷ l) p.parts;
    }
    by_test false e p = record { blanks = p.blanks; are = p.are; parts = ap (λ (l : List ℕ). b ∷ l) p.parts }

    by_rest : (rest : List ℕ) → Trimmed bytes rest → Trimmed (b ∷ bytes) (unless_last b rest)
    by_rest [] p = by_test (is_blank b) refl p
    by_rest (c ∷ rest) p = record { blanks = p.blanks; are = p.are; parts = ap (λ (l : List ℕ). b ∷ l) p.parts }

trimmed_blanks : (blanks : List ℕ) → AreBlanks blanks → trimmed blanks ≡ []
trimmed_blanks [] h = refl
trimmed_blanks (b ∷ blanks) h =
    let k = and_parts (is_blank b) (passes is_blank blanks) h in
    ap (unless_last b) (trimmed_blanks blanks k.1) ∙ ap (λ (t : Bool). if t then [] else b ∷ []) k.0

-- what ends with another byte is left of it and blanks behind it
pub trimmed_is : (bytes : List ℕ) (b : ℕ) (blanks : List ℕ) → is_blank b ≡ false → AreBlanks blanks → trimmed (bytes ++ b ∷ blanks) ≡ bytes ++ b ∷ []
trimmed_is [] b blanks h k = ap (unless_last b) (trimmed_blanks blanks k) ∙ ap (λ (t : Bool). if t then [] else b ∷ []) h
trimmed_is (x ∷ bytes) b blanks h k = ap (unless_last x) (trimmed_is bytes b blanks h k) ∙ unless_not_last x bytes b

-- ---- blanks in front, and a document type

pub record Past (bytes rest : List ℕ) : Type 0 where
  pub front : List ℕ
  pub are : AreBlanks front
  pub parts : bytes ≡ front ++ rest

pub past_blanks_parts : (bytes : List ℕ) → Past bytes (past_blanks bytes)
past_blanks_parts bytes =
    let n = leading is_blank bytes in
    record { front = take n bytes; are = leading_front is_blank bytes; parts = sym (take-append-drop n bytes) }

pub record PastDoctype (bytes rest : List ℕ) : Type 0 where
  pub doctype : List ℕ
  pub is : IsDoctype doctype
  pub parts : bytes ≡ doctype ++ rest

pub past_doctype_parts : (bytes : List ℕ) → PastDoctype bytes (past_doctype bytes)
past_doctype_parts bytes = by_front (stripped (codes "<!DOCTYPE html>") bytes) refl
  where
    by_front : (o : Option (List ℕ)) → stripped (codes "<!DOCTYPE html>") bytes ≡ o → PastDoctype bytes (where_some o past_blanks bytes)
    by_front None h = record { doctype = []; is = inl refl; parts = refl }
    by_front (Some rest) h =
        let p = past_blanks_parts rest in
        record {
          doctype = codes "<!DOCTYPE html>" ++ p.front;
          is = inr (p.front, p.are, refl);
          parts = stripped_is (codes "<!DOCTYPE html>") bytes rest h ∙ ap (λ (l : List ℕ). codes "<!DOCTYPE html>" ++ l) p.parts
              ∙ sym (append_assoc (codes "<!DOCTYPE html>") p.front (past_blanks rest));
        }

-- a document type and blanks in front of what begins with neither are passed
pub past_doctype_is : (doctype rest : List ℕ) → IsDoctype doctype → begins is_blank rest ≡ false → stripped (codes "<!DOCTYPE html>") rest ≡ None
    → past_doctype (doctype ++ rest) ≡ rest
past_doctype_is doctype rest (inl e) h k =
    ap (λ (d : List ℕ). past_doctype (d ++ rest)) e ∙ ap (λ (o : Option (List ℕ)). where_some o past_blanks rest) k
past_doctype_is doctype rest (inr d) h k =
    let front = codes "<!DOCTYPE html>" in
    let e : doctype ++ rest ≡ front ++ (d.0 ++ rest) = ap (λ (l : List ℕ). l ++ rest) d.2 ∙ append_assoc front d.0 rest in
    ap past_doctype e ∙ ap (λ (o : Option (List ℕ)). where_some o past_blanks (front ++ (d.0 ++ rest))) (stripped_again front (d.0 ++ rest))
    ∙ past_is d.0 rest d.1 h

pub doctype_begins : (doctype rest : List ℕ) → IsDoctype doctype → begins is_blank rest ≡ false → begins is_blank (doctype ++ rest) ≡ false
doctype_begins doctype rest (inl e) h = ap (λ (d : List ℕ). begins is_blank (d ++ rest)) e ∙ h
doctype_begins doctype rest (inr d) h = ap (λ (l : List ℕ). begins is_blank (l ++ rest)) d.2
