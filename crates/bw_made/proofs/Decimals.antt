-- The decimals of all numbers are digits, at most 64 of them, and so they are UTF-8.
use Rattle.std.proofs.Common.{◌≡◌, ◌≤◌, ◌<◌, ◌+◌, ◌%◌, ◌/◌, ℕ, zero, suc, Bool, true, false, List, [], ◌∷◌, length, refl, arith}
use Rattle.std.specs.Prelude.{ℤ, pos, negsuc, codes, ◌==◌, nat_lt, if◌then◌else◌}
use Rattle.std.specs.Fmt.{digit_glyph, digits, digits_onto, decimal, signed_decimal}
use Rattle.std.specs.List.{AllPass}
use Rattle.std.specs.Str.{IsUtf8}
use Rattle.std.proofs.lemmas.Bool.Decides.{nat_tests}
use Rattle.std.proofs.lemmas.List.Elements.{All-nil, All-cons}
use Rattle.std.proofs.lemmas.Str.{IsUtf8-append}
use Rattle.bw_lang.specs.Text.Bytes.{is_digit}
use Rattle.bw_read.proofs.Back.{digit_below}
use Rattle.bw_read.proofs.Utf8.{class_utf8, ascii_codes}

glyph_digit : (d : ℕ) → d < 10 → is_digit (digit_glyph false d) ≡ true
glyph_digit d h = by_test (nat_lt d 10) refl
  where
    low : (d : ℕ) → d < 10 → is_digit (48 + d) ≡ true
    low d h = grind (arith, nat_tests)

    not_high : (d : ℕ) → d < 10 → nat_lt d 10 ≡ false → ⊥
    not_high d h e = grind (arith, nat_tests)

    by_test : (b : Bool) → nat_lt d 10 ≡ b → is_digit (if b then 48 + d else 87 + d) ≡ true
    by_test true e = low d h
    by_test false e = absurd (not_high d h e)

abbrev AreDigits : List ℕ → Type 0
AreDigits ds = AllPass is_digit ds

onto_digits : (k n : ℕ) (acc : List ℕ) → AreDigits acc → AreDigits (digits_onto k 10 false n acc)
onto_digits zero n acc h = h
onto_digits (suc k) n acc h =
    let more = All-cons (λ x. is_digit x ≡ true) (digit_glyph false (n % 10)) acc (glyph_digit (n % 10) (omega arith)) h in
    by_test (n / 10 == 0) more (onto_digits k (n / 10) (digit_glyph false (n % 10) ∷ acc) more)
  where
    by_test : (b : Bool) → AreDigits (digit_glyph false (n % 10) ∷ acc) → AreDigits (digits_onto k 10 false (n / 10) (digit_glyph false (n % 10) ∷ acc)) →
        AreDigits (if b then digit_glyph false (n % 10) ∷ acc else digits_onto k 10 false (n / 10) (digit_glyph false (n % 10) ∷ acc))
    by_test true a b = a
    by_test false a b = b

onto_length : (k n : ℕ) (acc : List ℕ) → length (digits_onto k 10 false n acc) ≤ k + length acc
onto_length zero n acc = omega arith
onto_length (suc k) n acc =
    let l = onto_length k (n / 10) (digit_glyph false (n % 10) ∷ acc) in by_test (n / 10 == 0) (omega (arith, l))
  where
    by_test : (b : Bool) → length (digits_onto k 10 false (n / 10) (digit_glyph false (n % 10) ∷ acc)) ≤ suc k + length acc →
        length (if b then digit_glyph false (n % 10) ∷ acc else digits_onto k 10 false (n / 10) (digit_glyph false (n % 10) ∷ acc)) ≤ suc k + length acc
    by_test true h = omega arith
    by_test false h = h

pub decimal_digits : (n : ℕ) → AllPass is_digit (decimal n)
unfolding digits
decimal_digits n = onto_digits 64 n [] (All-nil (λ x. is_digit x ≡ true))

-- the decimal of any number has at most 64 digits
pub decimal_short : (n : ℕ) → length (decimal n) ≤ 64
unfolding digits
decimal_short n = onto_length 64 n []

decimal_text : (n : ℕ) → IsUtf8 (decimal n)
decimal_text n = class_utf8 is_digit digit_below (decimal n) (decimal_digits n)

pub signed_text : (z : ℤ) → IsUtf8 (signed_decimal z)
signed_text (pos n) = decimal_text n
signed_text (negsuc n) = IsUtf8-append (codes "-") (decimal (suc n)) (ascii_codes (codes "-") refl) (decimal_text (suc n))
