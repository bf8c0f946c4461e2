-- The digits of numbers and keys, and where a path is cut.
use Rattle.std.proofs.Common.{◌≡◌, ◌≢◌, ℕ, zero, suc, ◌+◌, ◌*◌, ◌/◌, ◌%◌, ◌^◌, ◌<◌, Bool, true, false, List, [], ◌∷◌, ◌++◌, length, take, drop, get_or, refl}
use Rattle.std.proofs.Common.{sym, ap, ◌∙◌, subst, arith, codes, decimal, ◌&&◌, slice_index, Result, Ok, Err, Option, Some, None, MatchOption, Bor}
use Rattle.std.proofs.lemmas.List.{nil_from_length, take_more, take_all, length-take-le, length-append, append_cancel_left}
use Rattle.std.proofs.lemmas.List.Folds.{list_all-append}
use Rattle.std.proofs.lemmas.List.Sums.{AllPass-from_list_all}
use Rattle.std.proofs.lemmas.Bool.{false≢true}
use Rattle.std.proofs.lemmas.Bool.Decides.{nat_tests}
use Rattle.std.proofs.lemmas.Int.Digits.{digits_value_push, digits_value-lt}
use Rattle.std.proofs.lemmas.Str.Parse.{IsNumeralModel}
use Rattle.std.proofs.lemmas.Str.Pattern.{IsSplitOnceResult, split_parts}
use Rattle.std.proofs.lemmas.Fmt.{decimal_is_IsNumeral, decimal-digits_value, first_decimal, decimal_digit, parse-decimal}
use Rattle.std.specs.List.{list_all}
use Rattle.std.specs.declared.num.ParseIntError.{ParseIntError}
use Rattle.std.specs.Char.{digit_value, digit_char}
use Rattle.std.specs.Str.Parse.{digits_value, AllDigits, IsNumeral, ParsesUnsigned, without_leading_plus}
use Rattle.bw_http.specs.declared.request.Path.TheVariants.{Turn}
use Rattle.bw_http.specs.Paths.{hex_digits, is_key_digit, IsCount, IsForm, HasNo, IsCutAt, SpellsNoTurn, spelling}

-- ---- decimal numbers

own : IsNumeralModel (AllDigits 10) (digits_value 10)
own = record { to = λ ds all. all; from = λ ds all. all; same = λ ds all. refl }

no_plus : (text : List ℕ) → slice_index text 0 ≢ 43 → without_leading_plus text ≡ text
no_plus text ne = grind (arith, nat_tests)

-- a number that counts begins with a digit other than 0
pub counts_from_one : (n : ℕ) (text : List ℕ) → IsCount n → text ≡ decimal n → (48 < slice_index text 0) × (slice_index text 0 < 58)
counts_from_one n text count e =
    let first : 48 < get_or (decimal n) 0 0 = first_decimal n count.0 (omega (arith, count.1)) in
    let all : AllDigits 10 (decimal n) = (decimal_is_IsNumeral n (omega (arith, count.1))).0.1 in
    let least : get_or (decimal n) 0 0 < 58 = first_below (decimal n) all in
    (subst (λ (t : List ℕ). 48 < get_or t 0 0) (sym e) first, subst (λ (t : List ℕ). get_or t 0 0 < 58) (sym e) least)
  where
    first_below : (ds : List ℕ) → AllDigits 10 ds → get_or ds 0 0 < 58
    first_below [] all = omega arith
    first_below (d ∷ ds) all = let small : digit_value d < 10 = all.0 in grind (arith, nat_tests)

-- what was parsed is spelt so
pub count_read : (text : List ℕ) (n : ℕ) → 48 < slice_index text 0 → ParsesUnsigned {E = ParseIntError} 32 10 text (Ok n)
    → IsCount n × (text ≡ decimal n)
count_read text n first parses =
    let same = no_plus text (λ e. absurd (omega (arith, e, first))) in
    let numeral : IsNumeral 10 text = subst (IsNumeral 10) same parses.0.0 in
    let value : n ≡ digits_value 10 text = parses.1 ∙ ap (digits_value 10) same in
    let small : digits_value 10 text < 2 ^ 32 = subst (λ (t : List ℕ). digits_value 10 t < 2 ^ 32) same parses.0.1 in
    let spelt : decimal (digits_value 10 text) ≡ text
    = decimal-digits_value own text numeral.1 numeral.0 (λ e. absurd (omega (arith, e, first))) (omega (arith, small)) in
    let is : text ≡ decimal n = sym spelt ∙ ap decimal (sym value) in
    ((positive n is, omega (arith, value, small)), is)
  where
    positive : (n : ℕ) → text ≡ decimal n → 0 < n
    positive zero is = absurd (omega (arith, first, ap (λ (t : List ℕ). get_or t 0 0) (is ∙ decimal_digit 0 (omega arith))))
    positive (suc n) is = omega arith

-- what wasn't parsed is no number that counts
pub count_unread : (text : List ℕ) (e : ParseIntError) (n : ℕ) → ParsesUnsigned {E = ParseIntError} 32 10 text (Err e) → IsCount n
    → text ≢ decimal n
count_unread text e n parses count is =
    let read : ◌≡◌ {A = Result ℕ ParseIntError} (Err e) (Ok n) = parse-decimal 32 n text (Err e) count.1 (omega (arith, count.1)) is parses in
    cc

-- ---- keys

-- a digit of a key, which is no plus and no slash
record KeyDigit (c : ℕ) : Type 0 where
  small : digit_value c < 16
  spelt : digit_char (digit_value c) ≡ c
  no_plus : c ≢ 43
  no_slash : c ≢ 47

key_digit : (c : ℕ) → is_key_digit c ≡ true → KeyDigit c
key_digit c is = record {
  small = grind (arith, nat_tests);
  spelt = grind (arith, nat_tests);
  no_plus = λ e. grind (arith, nat_tests);
  no_slash = λ e. grind (arith, nat_tests);
}

digit_key : (d : ℕ) → d < 16 → is_key_digit (digit_char d) ≡ true
digit_key d small = grind (arith, nat_tests)

pub and-both : (a b : Bool) → a && b ≡ true → (a ≡ true) × (b ≡ true)
and-both true b e = (refl, e)
and-both false b e = absurd (false≢true e)

-- the last digit of a key, and those before it
last_digit : (w : ℕ) (ds : List ℕ) → length ds ≡ suc w → ds ≡ take w ds ++ get_or ds w 0 ∷ []
last_digit w ds size =
    sym (take_all (w + 1) ds (omega (arith, size))) ∙ take_more ds w 0 (omega (arith, size))

-- digits are those of their value
pub hex_spelt : (w : ℕ) (ds : List ℕ) → length ds ≡ w → list_all is_key_digit ds ≡ true → hex_digits w (digits_value 16 ds) ≡ ds
hex_spelt zero ds size all = sym (nil_from_length ds (omega (arith, size)))
hex_spelt (suc w) ds size all =
    let front = take w ds in
    let c = get_or ds w 0 in
    let cut = last_digit w ds size in
    let both : (list_all is_key_digit front ≡ true) × (list_all is_key_digit (c ∷ []) ≡ true)
    = and-both _ _ (sym (list_all-append is_key_digit front (c ∷ [])) ∙ ap (list_all is_key_digit) (sym cut) ∙ all) in
    let digit : KeyDigit c = key_digit c (and-both (is_key_digit c) true both.1).0 in
    let value : digits_value 16 ds ≡ digits_value 16 front * 16 + digit_value c = ap (digits_value 16) cut ∙ digits_value_push 16 front c in
    let over : digits_value 16 ds / 16 ≡ digits_value 16 front = omega (arith, value, digit.small) in
    let rest : digits_value 16 ds % 16 ≡ digit_value c = omega (arith, value, digit.small) in
    ap (λ (v : ℕ). hex_digits w v ++ digit_char (digits_value 16 ds % 16) ∷ []) over
    ∙ ap (λ (t : List ℕ). t ++ digit_char (digits_value 16 ds % 16) ∷ []) (hex_spelt w front (length-take-le w ds (omega (arith, size))) both.0)
    ∙ ap (λ (d : ℕ). front ++ digit_char d ∷ []) rest
    ∙ ap (λ (d : ℕ). front ++ d ∷ []) digit.spelt
    ∙ sym cut

hex-length : (w n : ℕ) → length (hex_digits w n) ≡ w
hex-length zero n = refl
hex-length (suc w) n = length-append (hex_digits w (n / 16)) (digit_char (n % 16) ∷ []) ∙ omega (arith, hex-length w (n / 16))

pub hex-all : (w n : ℕ) → list_all is_key_digit (hex_digits w n) ≡ true
hex-all zero n = refl
hex-all (suc w) n =
    list_all-append is_key_digit (hex_digits w (n / 16)) (digit_char (n % 16) ∷ [])
    ∙ ap (λ (b : Bool). b && (is_key_digit (digit_char (n % 16)) && true)) (hex-all w (n / 16))
    ∙ ap (λ (b : Bool). b && true) (digit_key (n % 16) (omega arith))

-- the spelling of a key has 16 digits
pub key_digits : (key : ℕ) → (length (hex_digits 16 key) ≡ 16) × (list_all is_key_digit (hex_digits 16 key) ≡ true)
key_digits key = (hex-length 16 key, hex-all 16 key)

all_digits : (ds : List ℕ) → list_all is_key_digit ds ≡ true → AllDigits 16 ds
all_digits [] all = tt
all_digits (d ∷ ds) all = let both = and-both _ _ all in ((key_digit d both.0).small, all_digits ds both.1)

key_first : (text : List ℕ) → length text ≡ 16 → list_all is_key_digit text ≡ true → slice_index text 0 ≢ 43
key_first [] size all = absurd (omega (arith, size))
key_first (d ∷ ds) size all = let digit = key_digit d (and-both _ _ all).0 in digit.no_plus

-- 16 digits that were parsed spell the key
pub key_read : (text : List ℕ) (key : ℕ) → length text ≡ 16 → list_all is_key_digit text ≡ true
    → ParsesUnsigned {E = ParseIntError} 64 16 text (Ok key) → (key < 2 ^ 64) × (text ≡ hex_digits 16 key)
key_read text key size all parses =
    let same = no_plus text (key_first text size all) in
    (omega (arith, parses.1, parses.0.1), sym (hex_spelt 16 text size all) ∙ ap (hex_digits 16) (sym (parses.1 ∙ ap (digits_value 16) same)))

-- and they are always parsed
pub key_unread : (text : List ℕ) (e : ParseIntError) → length text ≡ 16 → list_all is_key_digit text ≡ true
    → ParsesUnsigned {E = ParseIntError} 64 16 text (Err e) → ⊥
key_unread text e size all parses =
    let same = no_plus text (key_first text size all) in
    let digits = all_digits text all in
    let small : digits_value 16 text < 16 ^ 16 = subst (λ (n : ℕ). digits_value 16 text < 16 ^ n) size (digits_value-lt 16 text digits) in
    parses (subst (λ (t : List ℕ). IsNumeral 16 t × (digits_value 16 t < 2 ^ 64)) (sym same) ((omega (arith, size), digits), omega (arith, small)))

-- ---- where a path is cut

-- a text whose bytes all differ from the mark doesn't have it
has_no : (mark : ℕ) (text : List ℕ) → ((i : ℕ) → i < length text → get_or text i 0 ≢ mark) → HasNo mark text
has_no mark text other front rest e =
    let size = ap length e ∙ length-append front (mark ∷ rest) in
    other (length front) (omega (arith, size)) (ap (λ (t : List ℕ). get_or t (length front) 0) e ∙ get_or_behind front mark rest)
  where
    get_or_behind : (front : List ℕ) (mark : ℕ) (rest : List ℕ) → get_or (front ++ mark ∷ rest) (length front) 0 ≡ mark
    get_or_behind [] mark rest = refl
    get_or_behind (b ∷ front) mark rest = get_or_behind front mark rest

-- the first mark is where `split_once` cuts
pub cuts : (mark : ℕ) (text : List ℕ) (r : Option (Bor (List ℕ) × Bor (List ℕ))) → IsSplitOnceResult mark text r → mark < 128
    → MatchOption r (HasNo mark text) (λ parts. IsCutAt mark text parts.0.now parts.1.now)
cuts mark text r is small = go r (split_parts mark text r is small)
  where
    go : (r : Option (Bor (List ℕ) × Bor (List ℕ)))
        → MatchOption r ((i : ℕ) → i < length text → get_or text i 0 ≢ mark)
        (λ x. (text ≡ x.0.now ++ (mark ∷ x.1.now)) × ((i : ℕ) → i < length x.0.now → get_or x.0.now i 0 ≢ mark))
        → MatchOption r (HasNo mark text) (λ parts. IsCutAt mark text parts.0.now parts.1.now)
    go None none = has_no mark text none
    go (Some x) parts = (parts.0, has_no mark x.0.now parts.1)

no_more : (mark b : ℕ) (text : List ℕ) → HasNo mark (b ∷ text) → HasNo mark text
no_more mark b text none front rest e = none (b ∷ front) rest (ap (λ (t : List ℕ). b ∷ t) e)

-- a text is cut at its first mark in one way
pub one_cut : (mark : ℕ) (a z b y : List ℕ) → HasNo mark a → HasNo mark b → a ++ mark ∷ z ≡ b ++ mark ∷ y → (a ≡ b) × (z ≡ y)
one_cut mark [] z [] y p q e = (refl, ap (drop 1) e)
one_cut mark [] z (c ∷ b) y p q e = absurd (q [] b (ap (λ (t : List ℕ). t ++ b) (ap (take 1) (sym e))))
one_cut mark (c ∷ a) z [] y p q e = absurd (p [] a (ap (λ (t : List ℕ). t ++ a) (ap (take 1) e)))
one_cut mark (c ∷ a) z (d ∷ b) y p q e =
    let rest = one_cut mark a z b y (no_more mark c a p) (no_more mark d b q) (ap (drop 1) e) in
    (ap (λ (t : List ℕ). t ++ a) (ap (take 1) e) ∙ ap (λ (t : List ℕ). d ∷ t) rest.0, rest.1)

-- a number has no dash, and a key no slash
pub no_dash : (n : ℕ) → IsCount n → HasNo 45 (decimal n)
no_dash n count = has_no 45 (decimal n) (digits_no_dash (decimal n) (decimal_is_IsNumeral n (omega (arith, count.1))).0.1)
  where
    dash : (d : ℕ) → digit_value d < 10 → d ≡ 45 → ⊥
    dash d small e = grind (arith, nat_tests)

    digits_no_dash : (ds : List ℕ) → AllDigits 10 ds → (i : ℕ) → i < length ds → get_or ds i 0 ≢ 45
    digits_no_dash [] all i within = absurd (omega (arith, within))
    digits_no_dash (d ∷ ds) all zero within = λ e. absurd (dash d all.0 e)
    digits_no_dash (d ∷ ds) all (suc i) within = digits_no_dash ds all.1 i (omega (arith, within))

pub no_slash : (key : ℕ) → HasNo 47 (hex_digits 16 key)
no_slash key =
    has_no 47 (hex_digits 16 key) (λ i within.
    (key_digit _ (AllPass-from_list_all is_key_digit (hex_digits 16 key) (hex-all 16 key) i 0 within)).no_slash)

-- the spelling of a turn, from what follows `/s/` on
turn_rest : (path rest : List ℕ) (number key turn : ℕ) → path ≡ codes "/s/" ++ rest → path ≡ spelling (Turn number key turn)
    → rest ≡ decimal number ++ (45 ∷ (hex_digits 16 key ++ (47 ∷ decimal turn)))
turn_rest path rest number key turn front is = append_cancel_left (codes "/s/") _ _ (sym front ∙ is)

-- there is a dash in it, and the number stands before the first one
pub turn_dash : (path rest : List ℕ) → path ≡ codes "/s/" ++ rest → HasNo 45 rest → SpellsNoTurn path
turn_dash path rest front none number key turn form is = none (decimal number) _ (turn_rest path rest number key turn front is)

pub turn_number : (path rest first tail : List ℕ) (number key turn : ℕ) → path ≡ codes "/s/" ++ rest → IsCutAt 45 rest first tail
    → IsForm (Turn number key turn) → path ≡ spelling (Turn number key turn)
    → (first ≡ decimal number) × (tail ≡ hex_digits 16 key ++ (47 ∷ decimal turn))
turn_number path rest first tail number key turn front at form is =
    one_cut 45 first tail (decimal number) _ at.1 (no_dash number form.0) (sym at.0 ∙ turn_rest path rest number key turn front is)

-- behind it there is a slash, the key before it and the turn behind it
pub turn_slash : (path rest first tail : List ℕ) → path ≡ codes "/s/" ++ rest → IsCutAt 45 rest first tail → HasNo 47 tail
    → SpellsNoTurn path
turn_slash path rest first tail front at none number key turn form is =
    none (hex_digits 16 key) (decimal turn) (turn_number path rest first tail number key turn front at form is).1

pub turn_key : (path rest first tail second last : List ℕ) (number key turn : ℕ) → path ≡ codes "/s/" ++ rest
    → IsCutAt 45 rest first tail → IsCutAt 47 tail second last → IsForm (Turn number key turn)
    → path ≡ spelling (Turn number key turn) → (second ≡ hex_digits 16 key) × (last ≡ decimal turn)
turn_key path rest first tail second last number key turn front at then form is =
    one_cut 47 second last (hex_digits 16 key) (decimal turn) then.1 (no_slash key)
    (sym then.0 ∙ (turn_number path rest first tail number key turn front at form is).1)

-- the parts together
pub turn_spelt : (path rest first tail second last : List ℕ) (number key turn : ℕ) → path ≡ codes "/s/" ++ rest
    → IsCutAt 45 rest first tail → IsCutAt 47 tail second last → first ≡ decimal number → second ≡ hex_digits 16 key
    → last ≡ decimal turn → path ≡ spelling (Turn number key turn)
turn_spelt path rest first tail second last number key turn front at then a b c =
    front ∙ ap (λ (t : List ℕ). codes "/s/" ++ t) (at.0 ∙ ap (λ (t : List ℕ). first ++ (45 ∷ t)) then.0)
    ∙ ap (λ (t : List ℕ). codes "/s/" ++ (t ++ (45 ∷ (second ++ (47 ∷ last))))) a
    ∙ ap (λ (t : List ℕ). codes "/s/" ++ (decimal number ++ (45 ∷ (t ++ (47 ∷ last))))) b
    ∙ ap (λ (t : List ℕ). codes "/s/" ++ (decimal number ++ (45 ∷ (hex_digits 16 key ++ (47 ∷ t))))) c
