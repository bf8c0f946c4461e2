-- Words are UTF-8.
use Rattle.std.proofs.Common.{◌≡◌, ℕ, suc, ◌<◌, true, List, [], ◌∷◌, arith}
use Rattle.std.specs.List.{AllPass}
use Rattle.std.specs.Prelude.{IsTrue}
use Rattle.std.specs.Str.{IsUtf8, IsAscii}
use Rattle.std.proofs.lemmas.Bool.Decides.{nat_tests}
use Rattle.std.proofs.lemmas.Str.{IsUtf8-from_ascii}
use Rattle.std.proofs.lemmas.Str.Ascii.{IsAscii-nil, IsAscii-cons}
use Rattle.bw_lang.specs.Text.Bytes.{is_letter, is_word_byte}
use Rattle.bw_lang.specs.Text.TokenForms.{IsWord}

letter_below : (b : ℕ) → IsTrue (is_letter b) → b < 128
letter_below b h = grind (arith, nat_tests)

word_byte_below : (b : ℕ) → is_word_byte b ≡ true → b < 128
word_byte_below b h = grind (arith, nat_tests)

word_bytes_ascii : (bs : List ℕ) → AllPass is_word_byte bs → IsAscii bs
word_bytes_ascii [] h = IsAscii-nil
word_bytes_ascii (b ∷ bs) h = IsAscii-cons b bs (word_byte_below b (h 0 b (omega arith))) (word_bytes_ascii bs (λ k d l. h (suc k) d (omega arith)))

pub word_utf8 : (bs : List ℕ) → IsWord bs → IsUtf8 bs
word_utf8 [] w = absurd w
word_utf8 (b ∷ bs) w = IsUtf8-from_ascii (b ∷ bs) (IsAscii-cons b bs (letter_below b w.0) (word_bytes_ascii bs w.1))
