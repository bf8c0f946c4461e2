-- The spelling of a path is ASCII.
use Rattle.std.proofs.Common.{◌≡◌, ◌≢◌, ℕ, ◌<◌, true, List, [], ◌∷◌, ◌++◌, sym, subst, arith, decimal, rules}
use Rattle.std.proofs.lemmas.Bool.Decides.{nat_tests}
use Rattle.std.proofs.lemmas.Str.{IsAscii-append, IsUtf8-from_ascii}
use Rattle.std.proofs.lemmas.Str.Ascii.{IsAscii-nil, IsAscii-cons, IsAscii-from_all}
use Rattle.std.proofs.lemmas.Fmt.{IsAscii-decimal}
use Rattle.std.specs.List.{list_all, AllPass}
use Rattle.std.specs.Prelude.{All, IsUtf8}
use Rattle.std.specs.Str.{IsAscii}
use Rattle.bw_lang.specs.Text.Bytes.{is_letter, is_word_byte}
use Rattle.bw_lang.specs.Text.TokenForms.{IsWord}
use Rattle.bw_http.specs.declared.request.Path.{Path}
use Rattle.bw_http.specs.declared.request.Path.TheVariants.{Index, Start, Turn, Other}
use Rattle.bw_http.specs.Paths.{hex_digits, is_key_digit, IsCount, IsForm, spelling}
use Rattle.bw_http.proofs.Spellings.{hex-all, and-both}

word_ascii : (word : List ℕ) → IsWord word → IsAscii word
word_ascii [] is = absurd is
word_ascii (b ∷ bs) is = IsAscii-cons b bs (letter b is.0) (IsAscii-from_all bs (bytes bs is.1))
  where
    letter : (b : ℕ) → is_letter b ≡ true → b < 128
    letter b is = grind (arith, nat_tests)

    word_byte : (b : ℕ) → is_word_byte b ≡ true → b < 128
    word_byte b is = grind (arith, nat_tests)

    bytes : (bs : List ℕ) → AllPass is_word_byte bs → All (λ b. b < 128) bs
    bytes [] all = search rules
    bytes (b ∷ bs) all = search rules

key_ascii : (ds : List ℕ) → list_all is_key_digit ds ≡ true → IsAscii ds
key_ascii [] all = IsAscii-nil
key_ascii (d ∷ ds) all =
    let both = and-both _ _ all in
    let small : d < 128 = below d both.0 in
    IsAscii-cons d ds small (key_ascii ds both.1)
  where
    below : (d : ℕ) → is_key_digit d ≡ true → d < 128
    below d is = grind (arith, nat_tests)

spelt_ascii : (p : Path) → IsForm p → IsAscii (spelling p)
spelt_ascii Index form = IsAscii-cons 47 [] (omega arith) IsAscii-nil
spelt_ascii (Start name) form = IsAscii-cons 47 name (omega arith) (word_ascii name form.0)
spelt_ascii (Turn number key turn) form =
    let count : (n : ℕ) → IsCount n → IsAscii (decimal n) = λ n is. IsAscii-decimal n (omega (arith, is.1)) in
    let key_end = hex_digits 16 key ++ 47 ∷ decimal turn in
    let number_end = decimal number ++ 45 ∷ key_end in
    let last = IsAscii-cons 47 (decimal turn) (omega arith) (count turn form.2) in
    let tail = IsAscii-append (hex_digits 16 key) (47 ∷ decimal turn) (key_ascii (hex_digits 16 key) (hex-all 16 key)) last in
    let body = IsAscii-append (decimal number) (45 ∷ key_end) (count number form.0) (IsAscii-cons 45 key_end (omega arith) tail) in
    let front = IsAscii-cons 115 (47 ∷ number_end) (omega arith) (IsAscii-cons 47 number_end (omega arith) body) in
    IsAscii-cons 47 (115 ∷ 47 ∷ number_end) (omega arith) front
spelt_ascii Other form = absurd form

-- bytes that are no text spell no path
pub no_text : (path : List ℕ) → ¬ (IsUtf8 path) → (p : Path) → IsForm p → path ≢ spelling p
no_text path none p form e = none (subst (λ (t : List ℕ). IsUtf8 t) (sym e) (IsUtf8-from_ascii (spelling p) (spelt_ascii p form)))
