-- What markup prints to is UTF-8.
use Rattle.std.proofs.Common.{◌≡◌, ◌≤◌, ◌<◌, ◌+◌, ◌/◌, ◌%◌, ℕ, Bool, true, false, List, [], ◌∷◌, ◌++◌, refl, sym, ap, subst, ◌∙◌, arith, cond, inl, inr}
use Rattle.std.specs.Prelude.{IsUtf8, codes, if◌then◌else◌, nat_lt, ◌==◌}
use Rattle.std.specs.Char.{encode_utf8}
use lib.Utf8.{scalar}
use Rattle.std.specs.List.{AllPass, list_all}
use Rattle.std.specs.Str.{IsAscii, all_scalars, encode_utf8_all}
use Rattle.std.proofs.lemmas.Bool.{and_parts, cases_lt}
use Rattle.std.proofs.lemmas.Bool.Decides.{nat_tests}
use Rattle.std.proofs.lemmas.List.Sums.{list_all-from_AllPass}
use Rattle.std.proofs.lemmas.Str.{IsUtf8-append, IsUtf8-nil, IsUtf8-from_ascii, IsUtf8-encode, encode_ascii}
use Rattle.std.proofs.lemmas.Str.Ascii.{IsAscii-nil, IsAscii-cons}
use Rattle.bw_lang.specs.declared.items.Attr.{Attr}
use Rattle.bw_lang.specs.declared.items.AttrValue.{AttrValue}
use Rattle.bw_lang.specs.declared.items.AttrValue.TheVariants as value
use Rattle.bw_lang.specs.declared.pieces.NameClass.{NameClass}
use Rattle.bw_lang.specs.declared.pieces.NameClass.TheVariants as class
use Rattle.bw_lang.specs.Document.Forest.{Forest, none, text, gap, element}
use Rattle.bw_lang.specs.Template.Markup.{is_void, escaped_byte, escaped}
use Rattle.bw_lang.specs.Template.MarkupNames.{later_of}
use Rattle.bw_lang.specs.Template.Pieces.{passes, IsNameOf}
use Rattle.bw_lang.specs.Document.Print.{print, printed_attr, printed_attrs, printed_start, printed_end, printed_element}
use Rattle.bw_lang.proofs.PrintLaws.{escaped-append}
use Rattle.bw_tmpl.specs.Markup.{IsValueOf, AreAttrs, IsClosedMarkup}
use Rattle.bw_tmpl.proofs.Runs.{later_below}

-- ---- ASCII

ascii_listed : (p : ℕ → Bool) → ((c : ℕ) → p c ≡ true → c < 128) → (s : List ℕ) → list_all p s ≡ true → IsAscii s
ascii_listed p below [] h = IsAscii-nil
ascii_listed p below (c ∷ s) h = let k = and_parts (p c) (list_all p s) h in IsAscii-cons c s (below c k.0) (ascii_listed p below s k.1)

-- bytes of an ASCII class are UTF-8
pub class_utf8 : (p : ℕ → Bool) → ((c : ℕ) → p c ≡ true → c < 128) → (s : List ℕ) → AllPass p s → IsUtf8 s
class_utf8 p below s h = IsUtf8-from_ascii s (ascii_listed p below s (list_all-from_AllPass p s h))

ascii_passes : (p : ℕ → Bool) → ((c : ℕ) → p c ≡ true → c < 128) → (s : List ℕ) → passes p s ≡ true → IsAscii s
ascii_passes p below [] h = IsAscii-nil
ascii_passes p below (c ∷ s) h = let k = and_parts (p c) (passes p s) h in IsAscii-cons c s (below c k.0) (ascii_passes p below s k.1)

name_utf8 : (k : NameClass) (n : List ℕ) → IsNameOf k n → IsUtf8 n
name_utf8 k n h = IsUtf8-from_ascii n (ascii_passes (later_of k) (later_below k) n h.later)

-- bytes that pass the test, one after the other
pub ascii_codes : (s : List ℕ) → list_all (λ c. nat_lt c 128) s ≡ true → IsUtf8 s
ascii_codes s h = IsUtf8-from_ascii s (ascii_listed (λ c. nat_lt c 128) (λ (c : ℕ) (e : nat_lt c 128 ≡ true). grind (arith, nat_tests)) s h)

-- ---- references

-- a byte of no ASCII character stands as it is
high_byte : (b : ℕ) → 128 ≤ b → escaped_byte b ≡ b ∷ []
high_byte b h =
    by_tests (b == 38) (b == 60) (b == 62) (b == 34) (other 38 (omega arith)) (other 60 (omega arith)) (other 62 (omega arith)) (other 34 (omega arith))
  where
    other : (low : ℕ) → low < 128 → (b == low) ≡ false
    other low l = grind (arith, nat_tests)

    by_tests : (a l g q : Bool) → a ≡ false → l ≡ false → g ≡ false → q ≡ false
        → (if a then codes "&amp;" else (if l then codes "&lt;" else (if g then codes "&gt;" else (if q then codes "&quot;" else b ∷ [])))) ≡ b ∷ []
    by_tests a l g q ea el eg eq = rw (ea, el, eg, eq) refl

low_byte : (b : ℕ) → b < 128 → IsUtf8 (escaped_byte b)
low_byte b h = by_tests (b == 38) (b == 60) (b == 62) (b == 34)
  where
    by_tests : (a l g q : Bool)
        → IsUtf8 (if a then codes "&amp;" else (if l then codes "&lt;" else (if g then codes "&gt;" else (if q then codes "&quot;" else b ∷ []))))
    by_tests true l g q = ascii_codes (codes "&amp;") refl
    by_tests false true g q = ascii_codes (codes "&lt;") refl
    by_tests false false true q = ascii_codes (codes "&gt;") refl
    by_tests false false false true = ascii_codes (codes "&quot;") refl
    by_tests false false false false = IsUtf8-from_ascii (b ∷ []) (IsAscii-cons b [] h IsAscii-nil)

high_bytes : (s : List ℕ) → list_all (λ b. nat_lt 127 b) s ≡ true → escaped s ≡ s
high_bytes [] h = refl
high_bytes (b ∷ s) h =
    let k = and_parts (nat_lt 127 b) (list_all (λ c. nat_lt 127 c) s) h in
    let e : 128 ≤ b = grind (arith, nat_tests, k.0) in
    ap (λ (l : List ℕ). l ++ escaped s) (high_byte b e) ∙ ap (λ (l : List ℕ). b ∷ l) (high_bytes s k.1)

above : (n : ℕ) → nat_lt 127 (128 + n) ≡ true
above n = grind (arith, nat_tests)

above_first : (low n : ℕ) → 128 ≤ low → nat_lt 127 (low + n) ≡ true
above_first low n h = grind (arith, nat_tests)

encoded_high : (c : ℕ) → 128 ≤ c → list_all (λ b. nat_lt 127 b) (encode_utf8 c) ≡ true
unfolding encode_utf8
encoded_high c h = by_tests (nat_lt c 128) (nat_lt c 2048) (nat_lt c 65536) (grind (arith, nat_tests))
  where
    high : ℕ → Bool
    high b = nat_lt 127 b

    by_tests : (one two three : Bool) → one ≡ false
        → list_all (λ b. nat_lt 127 b)
        (cond one (c ∷ []) (cond two ((192 + c / 64) ∷ (128 + c % 64) ∷ [])
        (cond three ((224 + c / 4096) ∷ (128 + c / 64 % 64) ∷ (128 + c % 64) ∷ [])
        ((240 + c / 262144) ∷ (128 + c / 4096 % 64) ∷ (128 + c / 64 % 64) ∷ (128 + c % 64) ∷ [])))) ≡ true
    by_tests true two three e = absurd (cc)
    by_tests false true three e = rw (above_first 192 (c / 64) (omega arith), above (c % 64)) refl
    by_tests false false true e = rw (above_first 224 (c / 4096) (omega arith), above (c / 64 % 64), above (c % 64)) refl
    by_tests false false false e =
        rw (above_first 240 (c / 262144) (omega arith), above (c / 4096 % 64), above (c / 64 % 64), above (c % 64)) refl

character_utf8 : (c : ℕ) → scalar c ≡ true → IsUtf8 (escaped (encode_utf8 c))
character_utf8 c h = elim (cases_lt c 128) [
  | inl low ↦ subst (λ (l : List ℕ). IsUtf8 (escaped l)) (sym (encode_ascii c low)) (IsUtf8-append (escaped_byte c) [] (low_byte c low) IsUtf8-nil)
  | inr high ↦ subst IsUtf8 (sym (high_bytes (encode_utf8 c) (encoded_high c high))) (IsUtf8-encode c h)
]

characters_utf8 : (cs : List ℕ) → all_scalars cs ≡ true → IsUtf8 (escaped (encode_utf8_all cs))
characters_utf8 [] h = IsUtf8-nil
characters_utf8 (c ∷ cs) h =
    let k = and_parts (scalar c) (all_scalars cs) h in
    subst IsUtf8 (sym (escaped-append (encode_utf8 c) (encode_utf8_all cs)))
    (IsUtf8-append (escaped (encode_utf8 c)) (escaped (encode_utf8_all cs)) (character_utf8 c k.0) (characters_utf8 cs k.1))

escaped_utf8 : (s : List ℕ) → IsUtf8 s → IsUtf8 (escaped s)
escaped_utf8 s h = subst (λ (l : List ℕ). IsUtf8 (escaped l)) h.1.1 (characters_utf8 h.0 h.1.0)

-- ---- documents

parts3 : (a b c : List ℕ) → IsUtf8 a → IsUtf8 b → IsUtf8 c → IsUtf8 (a ++ (b ++ c))
parts3 a b c p q r = IsUtf8-append a (b ++ c) p (IsUtf8-append b c q r)

attr_utf8 : (name : List ℕ) (v : AttrValue) → IsUtf8 name → IsValueOf ⊥ v → IsUtf8 (printed_attr name v)
attr_utf8 name (value.Fixed v) n h =
    parts3 (codes " ") name (codes "=\"" ++ (escaped v ++ codes "\"")) (ascii_codes (codes " ") refl) n
    (parts3 (codes "=\"") (escaped v) (codes "\"") (ascii_codes (codes "=\"") refl) (escaped_utf8 v h) (ascii_codes (codes "\"") refl))
attr_utf8 name (value.Hole g) n h = absurd h

attrs_utf8 : (attrs : List Attr) → AreAttrs ⊥ attrs → IsUtf8 (printed_attrs attrs)
attrs_utf8 [] h = IsUtf8-nil
attrs_utf8 (a ∷ attrs) h =
    IsUtf8-append (printed_attr a.name a.value) (printed_attrs attrs) (attr_utf8 a.name a.value (name_utf8 class.Attr a.name h.0) h.1) (attrs_utf8 attrs h.2)

element_utf8 : (tag : List ℕ) (attrs : List Attr) (inner : List ℕ) → IsUtf8 tag → AreAttrs ⊥ attrs → IsUtf8 inner → IsUtf8 (printed_element tag attrs inner)
element_utf8 tag attrs inner t a i = by_void (is_void tag)
  where
    start : IsUtf8 (printed_start tag attrs)
    start = parts3 (codes "<") tag (printed_attrs attrs) (ascii_codes (codes "<") refl) t (attrs_utf8 attrs a)

    end : IsUtf8 (printed_end tag)
    end = parts3 (codes "</") tag (codes ">") (ascii_codes (codes "</") refl) t (ascii_codes (codes ">") refl)

    by_void : (v : Bool) → IsUtf8 (printed_start tag attrs ++ (if v then codes "/>" else codes ">" ++ (inner ++ printed_end tag)))
    by_void true = IsUtf8-append (printed_start tag attrs) (codes "/>") start (ascii_codes (codes "/>") refl)
    by_void false =
        IsUtf8-append (printed_start tag attrs) (codes ">" ++ (inner ++ printed_end tag)) start
        (parts3 (codes ">") inner (printed_end tag) (ascii_codes (codes ">") refl) i end)

pub print_utf8 : (f : Forest) → IsClosedMarkup f → IsUtf8 (print f)
print_utf8 none h = IsUtf8-nil
print_utf8 (text s f) h = IsUtf8-append (escaped s) (print f) (escaped_utf8 s h.0) (print_utf8 f h.1)
print_utf8 (gap g f) h = absurd h.0
print_utf8 (element tag attrs inner f) h =
    IsUtf8-append (printed_element tag attrs (print inner)) (print f)
    (element_utf8 tag attrs (print inner) (name_utf8 class.Tag tag h.0) h.1 (print_utf8 inner h.4)) (print_utf8 f h.5)
