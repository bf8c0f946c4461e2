-- The bytes of a target stand for themselves: they are visible, and none of them is `?`.
use Rattle.std.proofs.Common.{◌≡◌, ◌<◌, ◌≤◌, ◌+◌, ◌^◌, ℕ, suc, Bool, true, false, List, [], ◌∷◌, ◌++◌, length, take, refl, sym, ap, ◌∙◌, subst, arith}
use Rattle.std.proofs.Common.{decimal, codes, All}
use Rattle.std.specs.Prelude.{not, ◌&&◌, ◌==◌, nat_lt, IsUtf8, cond}
use Rattle.std.specs.Char.{digit_value}
use Rattle.std.specs.List.{list_all, position_or_len, AllPass}
use Rattle.std.specs.Str.Parse.{AllDigits}
use Rattle.std.proofs.lemmas.Bool.{and_parts}
use Rattle.std.proofs.lemmas.Bool.Decides.{nat_tests}
use Rattle.std.proofs.lemmas.Fmt.{decimal_is_IsNumeral, length-decimal-le}
use Rattle.std.proofs.lemmas.List.{length-append, take_all}
use Rattle.std.proofs.lemmas.List.Folds.{list_all-append}
use Rattle.std.proofs.lemmas.List.Elements.{All-cons, All-nil}
use Rattle.std.proofs.lemmas.List.Sums.{AllPass-from_list_all, list_all-from_AllPass}
use Rattle.std.proofs.lemmas.Str.{IsUtf8-from_ascii}
use Rattle.std.proofs.lemmas.Str.Ascii.{IsAscii-from_all}
use Rattle.bw_lang.specs.Text.Bytes.{is_letter, is_word_byte}
use Rattle.bw_lang.specs.Text.TokenForms.{IsWord}
use Rattle.bw_http.specs.declared.request.Path.TheVariants.{Start, Turn}
use Rattle.bw_http.specs.Paths.{hex_digits, is_key_digit, is_question, before_query, IsCount, IsForm, spelling}
use Rattle.bw_http.proofs.Spellings.{hex-all, key_digits}
use Rattle.httparse.specs.Grammar.{is_uri_byte}

abbrev pub ok : ℕ → Bool
ok b = nat_lt 32 b && (nat_lt b 127 && not (b == 63))

abbrev pub Plain : List ℕ → Type 0
Plain bytes = list_all ok bytes ≡ true

one_more : (b : ℕ) (bs : List ℕ) → ok b ≡ true → Plain bs → Plain (b ∷ bs)
one_more b bs h k = (λ i. h i && k i)

then : (a b : List ℕ) → Plain a → Plain b → Plain (a ++ b)
then a b h k = list_all-append ok a b ∙ (λ i. h i && k i)

digit_ok : (d : ℕ) → digit_value d < 10 → ok d ≡ true
digit_ok d h = grind (arith, nat_tests)

key_ok : (d : ℕ) → is_key_digit d ≡ true → ok d ≡ true
key_ok d h = grind (arith, nat_tests)

word_ok : (d : ℕ) → is_word_byte d ≡ true → ok d ≡ true
word_ok d h = grind (arith, nat_tests)

letter_ok : (d : ℕ) → is_letter d ≡ true → ok d ≡ true
letter_ok d h = grind (arith, nat_tests)

digits_plain : (ds : List ℕ) → AllDigits 10 ds → Plain ds
digits_plain [] h = refl
digits_plain (d ∷ ds) h = one_more d ds (digit_ok d h.0) (digits_plain ds h.1)

pub decimal_plain : (n : ℕ) → n < 2 ^ 64 → Plain (decimal n)
decimal_plain n h = digits_plain (decimal n) (decimal_is_IsNumeral n h).0.1

by_test : (test : ℕ → Bool) → ((b : ℕ) → test b ≡ true → ok b ≡ true) → (bs : List ℕ) → list_all test bs ≡ true → Plain bs
by_test test f [] h = refl
by_test test f (b ∷ bs) h = let p = and_parts _ _ h in one_more b bs (f b p.0) (by_test test f bs p.1)

key_plain : (key : ℕ) → Plain (hex_digits 16 key)
key_plain key = by_test is_key_digit key_ok (hex_digits 16 key) (hex-all 16 key)

word_plain : (name : List ℕ) → IsWord name → Plain name
word_plain [] h = absurd h
word_plain (b ∷ bs) h = one_more b bs (letter_ok b h.0) (by_test is_word_byte word_ok bs (list_all-from_AllPass is_word_byte bs h.1))

count_plain : (n : ℕ) → IsCount n → Plain (decimal n)
count_plain n h = decimal_plain n (omega (arith, h.1))

pub start_plain : (name : List ℕ) → IsForm (Start name) → Plain (spelling (Start name))
start_plain name h = one_more 47 name refl (word_plain name h.0)

pub turn_plain : (number key turn : ℕ) → IsForm (Turn number key turn) → Plain (spelling (Turn number key turn))
turn_plain number key turn h =
    let last = one_more 47 (decimal turn) refl (count_plain turn h.2) in
    let back = hex_digits 16 key ++ 47 ∷ decimal turn in
    let middle = one_more 45 back refl (then (hex_digits 16 key) (47 ∷ decimal turn) (key_plain key) last) in
    let rest = decimal number ++ 45 ∷ back in
    one_more 47 (115 ∷ 47 ∷ rest) refl
    (one_more 115 (47 ∷ rest) refl (one_more 47 rest refl (then (decimal number) (45 ∷ back) (count_plain number h.0) middle)))

pub start_short : (name : List ℕ) → IsForm (Start name) → length (spelling (Start name)) ≤ 65
start_short name h = omega (arith, h.1)

count_short : (n : ℕ) → IsCount n → length (decimal n) ≤ 10
count_short n h = length-decimal-le 10 n (omega arith) (omega (arith, h.1)) (omega (arith, h.1))

pub turn_short : (number key turn : ℕ) → IsForm (Turn number key turn) → length (spelling (Turn number key turn)) ≤ 41
turn_short number key turn h =
    omega (
      arith,
      length-append (decimal number) (45 ∷ (hex_digits 16 key ++ (47 ∷ decimal turn))),
      length-append (hex_digits 16 key) (47 ∷ decimal turn),
      (key_digits key).0,
      count_short number h.0,
      count_short turn h.2,
    )

-- ---- what plain bytes are

weaker : (test : ℕ → Bool) → ((b : ℕ) → ok b ≡ true → test b ≡ true) → (bs : List ℕ) → Plain bs → list_all test bs ≡ true
weaker test f [] h = refl
weaker test f (b ∷ bs) h = let p = and_parts _ _ h in (λ i. f b p.0 i && weaker test f bs p.1 i)

uri_ok : (b : ℕ) → ok b ≡ true → is_uri_byte b ≡ true
uri_ok b h = grind (arith, nat_tests)

ascii_ok : (b : ℕ) → ok b ≡ true → b < 128
ascii_ok b h = grind (arith, nat_tests)

pub plain_uri : (bs : List ℕ) → Plain bs → AllPass is_uri_byte bs
plain_uri bs h = AllPass-from_list_all is_uri_byte bs (weaker is_uri_byte uri_ok bs h)

ascii : (bs : List ℕ) → Plain bs → All (λ b. b < 128) bs
ascii [] h = All-nil (λ b. b < 128)
ascii (b ∷ bs) h = let p = and_parts _ _ h in All-cons (λ x. x < 128) b bs (ascii_ok b p.0) (ascii bs p.1)

pub plain_utf8 : (bs : List ℕ) → Plain bs → IsUtf8 bs
plain_utf8 bs h = IsUtf8-from_ascii bs (IsAscii-from_all bs (ascii bs h))

not_question : (b : ℕ) → ok b ≡ true → is_question b ≡ false
not_question b h = grind (arith, nat_tests)

counted : (n : ℕ) (bs : List ℕ) → n ≡ length bs → 1 + n ≡ suc (length bs)
counted n bs h = omega (arith, h)

no_question : (bs : List ℕ) → Plain bs → position_or_len is_question bs ≡ length bs
no_question [] h = refl
no_question (b ∷ bs) h =
    let p = and_parts _ _ h in
    ap (λ (t : Bool). cond (not t) (1 + position_or_len is_question bs) 0) (not_question b p.0)
    ∙ counted (position_or_len is_question bs) bs (no_question bs p.1)

pub whole_query : (bs : List ℕ) → Plain bs → before_query bs ≡ bs
whole_query bs h = ap (λ n. take n bs) (no_question bs h) ∙ take_all (length bs) bs (omega arith)
