-- A target leads to one path.
use Rattle.std.proofs.Common.{◌≡◌, ◌≢◌, ℕ, zero, suc, ◌+◌, ◌*◌, ◌/◌, ◌%◌, ◌^◌, ◌<◌, List, [], ◌∷◌, ◌++◌, length, drop, refl, sym, ap, ◌∙◌, arith, codes}
use Rattle.std.proofs.Common.{decimal, pow-add}
use Rattle.std.proofs.lemmas.List.{append_cancel_left}
use Rattle.std.proofs.lemmas.Str.{digit_value-digit_char}
use Rattle.std.proofs.lemmas.Int.Digits.{digits_value_push}
use Rattle.std.proofs.lemmas.Fmt.{decimal_is_IsNumeral}
use Rattle.std.specs.List.{AllPass}
use Rattle.std.specs.Char.{digit_char}
use Rattle.std.specs.Str.Parse.{digits_value}
use Rattle.bw_lang.specs.Text.Bytes.{is_word_byte}
use Rattle.bw_lang.specs.Text.TokenForms.{IsWord}
use Rattle.httparse.specs.Grammar.{RequestHead}
use Rattle.bw_http.specs.declared.request.Request.{Request}
use Rattle.bw_http.specs.declared.request.Method.{Method}
use Rattle.bw_http.specs.Messages.{IsRequest}
use Rattle.bw_http.specs.declared.request.Path.{Path}
use Rattle.bw_http.specs.declared.request.Path.TheVariants.{Index, Start, Turn, Other}
use Rattle.bw_http.specs.Paths.{hex_digits, IsCount, IsForm, IsPath, spelling}
use Rattle.bw_http.proofs.Spellings.{one_cut, no_dash, no_slash}

-- a number that fits so many hexadecimal digits is their value
hex_value : (w n : ℕ) → n < 16 ^ w → digits_value 16 (hex_digits w n) ≡ n
hex_value zero n small = sym (omega (arith, small))
hex_value (suc w) n small =
    let one : suc w ≡ w + 1 = omega arith in
    let room : 16 ^ suc w ≡ 16 ^ w * 16 = ap (λ (k : ℕ). 16 ^ k) one ∙ pow-add 16 w 1 in
    let front = hex_value w (n / 16) (omega (arith, small, room)) in
    let last = digit_value-digit_char (n % 16) (omega arith) in
    digits_value_push 16 (hex_digits w (n / 16)) (digit_char (n % 16)) ∙ omega (arith, front, last)

count_one : (n m : ℕ) → IsCount n → IsCount m → decimal n ≡ decimal m → n ≡ m
count_one n m a b e =
    sym (decimal_is_IsNumeral n (omega (arith, a.1))).1 ∙ ap (digits_value 10) e ∙ (decimal_is_IsNumeral m (omega (arith, b.1))).1

key_one : (k l : ℕ) → k < 2 ^ 64 → l < 2 ^ 64 → hex_digits 16 k ≡ hex_digits 16 l → k ≡ l
key_one k l a b e = sym (hex_value 16 k (omega (arith, a))) ∙ ap (digits_value 16) e ∙ hex_value 16 l (omega (arith, b))

turn_one : (n k t m l u : ℕ) → IsForm (Turn n k t) → IsForm (Turn m l u) → spelling (Turn n k t) ≡ spelling (Turn m l u) → Turn n k t ≡ Turn m l u
turn_one n k t m l u a b e =
    let rest = append_cancel_left (codes "/s/") _ _ e in
    let first = one_cut 45 (decimal n) (hex_digits 16 k ++ (47 ∷ decimal t)) (decimal m) (hex_digits 16 l ++ (47 ∷ decimal u))
    (no_dash n a.0) (no_dash m b.0) rest in
    let second = one_cut 47 (hex_digits 16 k) (decimal t) (hex_digits 16 l) (decimal u) (no_slash k) (no_slash l) first.1 in
    let x : n ≡ m = count_one n m a.0 b.0 first.0 in
    let y : k ≡ l = key_one k l a.1 b.1 second.0 in
    let z : t ≡ u = count_one t u a.2 b.2 second.1 in
    cc

-- a word has no slash
no_word : (name rest : List ℕ) → IsWord name → name ≡ 115 ∷ 47 ∷ rest → ⊥
no_word [] rest is e = absurd is
no_word (b ∷ []) rest is e = absurd (omega (arith, ap length e))
no_word (b ∷ c ∷ bs) rest is e =
    let slash : c ∷ bs ≡ 47 ∷ rest = ap (drop 1) e in
    slash_word (c ∷ bs) rest is.1 slash
  where
    slash_word : (bs rest : List ℕ) → AllPass is_word_byte bs → bs ≡ 47 ∷ rest → ⊥
    slash_word bs rest all e = grind arith

some_word : (name : List ℕ) → IsWord name → [] ≢ name
some_word [] is e = absurd is
some_word (b ∷ name) is e = absurd (omega (arith, ap length e))

-- the bytes are the spelling of one path at most
pub one_path : (bytes : List ℕ) (p q : Path) → IsPath bytes p → IsPath bytes q → p ≡ q
one_path bytes Index Index a b = refl
one_path bytes Index (Start name) a b = absurd (some_word name b.0.0 (ap (drop 1) (sym a ∙ b.1)))
one_path bytes Index (Turn n k t) a b = absurd (omega (arith, ap length (ap (drop 1) (sym a ∙ b.1))))
one_path bytes Index Other a b = absurd (b Index tt a)
one_path bytes (Start name) Index a b = absurd (some_word name a.0.0 (ap (drop 1) (sym b ∙ a.1)))
one_path bytes (Start name) (Start other) a b = ap Start (ap (drop 1) (sym a.1 ∙ b.1))
one_path bytes (Start name) (Turn n k t) a b = absurd (no_word name _ a.0.0 (ap (drop 1) (sym a.1 ∙ b.1)))
one_path bytes (Start name) Other a b = absurd (b (Start name) a.0 a.1)
one_path bytes (Turn n k t) Index a b = absurd (omega (arith, ap length (ap (drop 1) (sym b ∙ a.1))))
one_path bytes (Turn n k t) (Start name) a b = absurd (no_word name _ b.0.0 (ap (drop 1) (sym b.1 ∙ a.1)))
one_path bytes (Turn n k t) (Turn m l u) a b = turn_one n k t m l u a.0 b.0 (sym a.1 ∙ b.1)
one_path bytes (Turn n k t) Other a b = absurd (b (Turn n k t) a.0 a.1)
one_path bytes Other Index a b = absurd (a Index tt b)
one_path bytes Other (Start name) a b = absurd (a (Start name) b.0 b.1)
one_path bytes Other (Turn n k t) a b = absurd (a (Turn n k t) b.0 b.1)
one_path bytes Other Other a b = refl

-- a head and a body send one request
pub one_request : (h : RequestHead) (body : List ℕ) (q r : Request) → IsRequest h body q → IsRequest h body r → q ≡ r
one_request h body q r a b =
    let method : q.method ≡ r.method = a.method ∙ sym b.method in
    let path : q.path ≡ r.path = one_path _ q.path r.path a.path b.path in
    let form : q.form ≡ r.form = a.form ∙ sym b.form in
    let first : q ≡ record q { method = r.method } = ap (λ (m : Method). record q { method = m }) method in
    let second : record q { method = r.method } ≡ record r { form = q.form } = ap (λ (p : Path). record r { path = p; form = q.form }) path in
    let third : record r { form = q.form } ≡ r = ap (λ (f : List (List ℕ × List ℕ)). record r { form = f }) form in
    first ∙ second ∙ third
