-- Bytes are a script, or they are none.
use Rattle.std.proofs.Common.{◌≡◌, ◌≤◌, ◌<◌, ◌⊎◌, inl, inr, ℕ, Bool, true, false, List, [], ◌∷◌, ◌++◌, length, refl, sym, ap, ◌∙◌, arith, IsUtf8}
use Rattle.std.specs.Prelude.{◌==◌, drop, get_or}
use Rattle.std.specs.List.{list_all}
use Rattle.std.specs.Str.{is_utf8}
use Rattle.std.proofs.lemmas.Bool.{cases_lt, false≢true}
use Rattle.std.proofs.lemmas.Bool.Decides.{nat_tests}
use Rattle.std.proofs.lemmas.List.{length-append}
use Rattle.std.proofs.lemmas.List.Sums.{AllPass-from_list_all, list_all-from_AllPass}
use Rattle.std.proofs.lemmas.Str.{is_utf8-from_IsUtf8, IsUtf8-from_is_utf8}
use Rattle.bw_http.specs.Paths.{HasNo, IsCutAt, IsForm}
use Rattle.bw_http.specs.declared.request.Path.TheVariants.{Start}
use Rattle.bw_lang.specs.Text.Bytes.{is_letter, is_word_byte}
use Rattle.bw_lang.specs.Text.TokenForms.{IsWord}
use Rattle.bw_visit.specs.Scripts.{AreLines, HasLines, HasNoLines, IsScript, IsNoScript}
use Rattle.bw_visit.proofs.Scripts.{no_first, no_name, no_lines, long_is_none, other_is_none}

-- ---- the first line

ten : (b : ℕ) → (b == 10) ≡ true → b ≡ 10
ten b e = grind (arith, nat_tests)

not_ten : (b : ℕ) → (b == 10) ≡ false → b ≡ 10 → ⊥
not_ten b e f = grind (arith, nat_tests)

none_in_nil : HasNo 10 []
none_in_nil front rest e = absurd (omega (arith, ap length e, length-append front (10 ∷ rest)))

more_none : (b : ℕ) (text : List ℕ) → (b ≡ 10 → ⊥) → HasNo 10 text → HasNo 10 (b ∷ text)
more_none b text other none [] rest e = other (ap (λ t. get_or t 0 0) e)
more_none b text other none (c ∷ front) rest e = none front rest (ap (drop 1) e)

-- the text has a first line, or no end of one
abbrev HasCut : List ℕ → Type 0
HasCut text = ((front : List ℕ) × (rest : List ℕ) × IsCutAt 10 text front rest) ⊎ HasNo 10 text

cut_so : (b : ℕ) (text : List ℕ) (is : Bool) → (b == 10) ≡ is → HasCut text → HasCut (b ∷ text)
cut_so b text true e h = inl ([], text, (ap (λ c. c ∷ text) (ten b e), none_in_nil))
cut_so b text false e (inl x) = inl (b ∷ x.0, x.1, (ap (λ t. b ∷ t) x.2.0, more_none b x.0 (not_ten b e) x.2.1))
cut_so b text false e (inr none) = inr (more_none b text (not_ten b e) none)

has_cut : (text : List ℕ) → HasCut text
has_cut [] = inr none_in_nil
has_cut (b ∷ text) = cut_so b text (b == 10) refl (has_cut text)

-- ---- the lines behind it

last_is : (b : ℕ) (front : List ℕ) → b ∷ [] ≡ front ++ 10 ∷ [] → b ≡ 10
last_is b [] e = ap (λ t. get_or t 0 0) e
last_is b (c ∷ front) e = absurd (omega (arith, ap length e, length-append front (10 ∷ [])))

last_lines : (b : ℕ) → AreLines (b ∷ []) → b ≡ 10
last_lines b (inl e) = absurd (omega (arith, ap length e))
last_lines b (inr x) = last_is b x.0 x.1

one_byte : (b : ℕ) (is : Bool) → (b == 10) ≡ is → AreLines (b ∷ []) ⊎ (AreLines (b ∷ []) → ⊥)
one_byte b true e = inl (inr ([], ap (λ c. c ∷ []) (ten b e)))
one_byte b false e = inr (λ l. not_ten b e (last_lines b l))

more_lines : (b c : ℕ) (text : List ℕ) → AreLines (c ∷ text) → AreLines (b ∷ (c ∷ text))
more_lines b c text (inl e) = absurd (omega (arith, ap length e))
more_lines b c text (inr x) = inr (b ∷ x.0, ap (λ t. b ∷ t) x.1)

fewer_by : (b c : ℕ) (text front : List ℕ) → b ∷ (c ∷ text) ≡ front ++ 10 ∷ [] → AreLines (c ∷ text)
fewer_by b c text [] e = absurd (omega (arith, ap length e))
fewer_by b c text (d ∷ front) e = inr (front, ap (drop 1) e)

fewer_lines : (b c : ℕ) (text : List ℕ) → AreLines (b ∷ (c ∷ text)) → AreLines (c ∷ text)
fewer_lines b c text (inl e) = absurd (omega (arith, ap length e))
fewer_lines b c text (inr x) = fewer_by b c text x.0 x.1

lines_or_not : (text : List ℕ) → AreLines text ⊎ (AreLines text → ⊥)
lines_or_not [] = inl (inl refl)
lines_or_not (b ∷ []) = one_byte b (b == 10) refl
lines_or_not (b ∷ (c ∷ text)) = elim (lines_or_not (c ∷ text)) [
  | inl l ↦ inl (more_lines b c text l)
  | inr none ↦ inr (λ l. none (fewer_lines b c text l))
]

-- ---- the name

word_so : (b : ℕ) (bs : List ℕ) (first all : Bool) → is_letter b ≡ first → list_all is_word_byte bs ≡ all → IsWord (b ∷ bs) ⊎ (IsWord (b ∷ bs) → ⊥)
word_so b bs true true e f = inl (e, AllPass-from_list_all is_word_byte bs f)
word_so b bs true false e f = inr (λ w. false≢true (sym f ∙ list_all-from_AllPass is_word_byte bs w.1))
word_so b bs false all e f = inr (λ w. false≢true (sym e ∙ w.0))

word_or_not : (name : List ℕ) → IsWord name ⊎ (IsWord name → ⊥)
word_or_not [] = inr (λ w. w)
word_or_not (b ∷ bs) = word_so b bs (is_letter b) (list_all is_word_byte bs) refl refl

name_so : (name : List ℕ) → IsWord name ⊎ (IsWord name → ⊥) → (64 < length name) ⊎ (length name ≤ 64)
    → IsForm (Start name) ⊎ (IsForm (Start name) → ⊥)
name_so name (inr no_word) size = inr (λ f. no_word f.0)
name_so name (inl word) (inl long) = inr (λ f. absurd (omega (arith, long, f.1)))
name_so name (inl word) (inr short) = inl (word, short)

name_or_not : (name : List ℕ) → IsForm (Start name) ⊎ (IsForm (Start name) → ⊥)
name_or_not name = name_so name (word_or_not name) (cases_lt 64 (length name))

-- ---- the whole text

parts_so : (text first rest : List ℕ) → IsCutAt 10 text first rest → IsForm (Start first) ⊎ (IsForm (Start first) → ⊥)
    → AreLines rest ⊎ (AreLines rest → ⊥) → ((name : List ℕ) × (lines : List ℕ) × HasLines text name lines) ⊎ HasNoLines text
parts_so text first rest cut (inl n) (inl l) = inl (first, rest, record { first = cut; name_fits = n; ended = l })
parts_so text first rest cut (inl n) (inr none) = inr (no_lines text first rest cut none)
parts_so text first rest cut (inr none) l = inr (no_name text first rest cut none)

text_so : (text : List ℕ) → HasCut text → ((name : List ℕ) × (lines : List ℕ) × HasLines text name lines) ⊎ HasNoLines text
text_so text (inl x) = parts_so text x.0 x.1 x.2 (name_or_not x.0) (lines_or_not x.1)
text_so text (inr none) = inr (no_first text none)

-- the bytes are a script or none
abbrev pub IsDecided : List ℕ → Type 0
IsDecided bytes = ((name : List ℕ) × (lines : List ℕ) × IsScript bytes name lines) ⊎ IsNoScript bytes

lines_so : (bytes : List ℕ) → length bytes ≤ 1048576 → IsUtf8 bytes → ((name : List ℕ) × (lines : List ℕ) × HasLines bytes name lines) ⊎ HasNoLines bytes
    → IsDecided bytes
lines_so bytes short text (inl x) = inl (x.0, x.1, record { short = short; utf8 = text; lines_are = x.2 })
lines_so bytes short text (inr none) = inr (λ name lines s. none name lines s.lines_are)

utf8_so : (bytes : List ℕ) (is : Bool) → is_utf8 bytes ≡ is → length bytes ≤ 1048576 → IsDecided bytes
utf8_so bytes true e short = lines_so bytes short (IsUtf8-from_is_utf8 bytes e) (text_so bytes (has_cut bytes))
utf8_so bytes false e short = inr (other_is_none bytes (λ u. false≢true (sym e ∙ is_utf8-from_IsUtf8 bytes u)))

pub script_or_none : (bytes : List ℕ) → IsDecided bytes
script_or_none bytes = elim (cases_lt 1048576 (length bytes)) [
  | inl long ↦ inr (long_is_none bytes long)
  | inr short ↦ utf8_so bytes (is_utf8 bytes) refl short
]
