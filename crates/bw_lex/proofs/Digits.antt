-- The value of digits, and the numbers that they spell.
use Rattle.std.proofs.Common.{◌≡◌, ℕ, ◌+◌, ◌-◌, ◌*◌, ◌<◌, ◌≤◌, List, [], ◌∷◌, length, get_or, take, drop, sym, ap, ◌∙◌, arith, fold, if◌then◌else◌}
use Rattle.std.specs.List.{prefix_len, AllPass}
use Rattle.std.proofs.lemmas.List.{take-append-drop, length-take, get_or-take}
use Rattle.std.proofs.lemmas.List.Sums.{fold-append, fold_more, prefix_len_passes}
use Rattle.std.proofs.lemmas.Bool.{le-leb, lt-leb}
use Rattle.bw_lang.specs.declared.token.TokenKind.TheVariants as kinds
use Rattle.bw_lex.specs.declared.pieces.FaultKind.TheVariants as faults
use Rattle.bw_lex.specs.declared.pieces.Piece.TheVariants as pieces
use Rattle.bw_lang.specs.Text.Bytes.{is_digit}
use Rattle.bw_lang.specs.Text.TokenForms.{value}
use Rattle.bw_lex.specs.Pieces.{number}

abbrev after_digit : ℕ → ℕ → ℕ
after_digit v d = v * 10 + (d - 48)

-- a further digit makes no value less
grows : (v : ℕ) (digits : List ℕ) → v ≤ fold after_digit v digits
grows v [] = omega arith
grows v (d ∷ digits) = omega (arith, grows (v * 10 + (d - 48)) digits)

pub value-take-le : (digits : List ℕ) (n : ℕ) → value (take n digits) ≤ value digits
value-take-le digits n =
    let e = ap value (sym (take-append-drop n digits)) ∙ fold-append after_digit 0 (take n digits) (drop n digits) in
    omega (arith, e, grows (value (take n digits)) (drop n digits))

pub value-more : (digits : List ℕ) (n : ℕ) → n < length digits → value (take (n + 1) digits) ≡ value (take n digits) * 10 + (get_or digits n 0 - 48)
value-more digits n h = fold_more after_digit 0 digits n 0 h

pub number_fits : (bytes : List ℕ) (v : ℕ) → v ≡ value (take (prefix_len is_digit bytes) bytes) → v ≤ 9_223_372_036_854_775_807
    → number bytes ≡ pieces.Token (kinds.Number v) (prefix_len is_digit bytes)
number_fits bytes v e h =
    let most : value (take (prefix_len is_digit bytes) bytes) ≤ 9_223_372_036_854_775_807 = omega (arith, e) in
    ap (λ b. if b then pieces.Token (kinds.Number (value (take (prefix_len is_digit bytes) bytes))) (prefix_len is_digit bytes)
    else pieces.Fault faults.NumberTooBig 0) (le-leb _ _ most)
    ∙ ap (λ w. pieces.Token (kinds.Number w) (prefix_len is_digit bytes)) (sym e)

pub number_is_too_big : (bytes : List ℕ) → 9_223_372_036_854_775_807 < value (take (prefix_len is_digit bytes) bytes)
    → number bytes ≡ pieces.Fault faults.NumberTooBig 0
number_is_too_big bytes h =
    ap (λ b. if b then pieces.Token (kinds.Number (value (take (prefix_len is_digit bytes) bytes))) (prefix_len is_digit bytes)
    else pieces.Fault faults.NumberTooBig 0) (lt-leb _ _ h)

-- the front that is counted has digits alone
pub all_digits : (bytes : List ℕ) (n : ℕ) → n ≡ prefix_len is_digit bytes → AllPass is_digit (take n bytes)
all_digits bytes n e k d h =
    let below : k < n = omega (arith, length-take n bytes, h) in
    ap is_digit (get_or-take n bytes k d below) ∙ prefix_len_passes is_digit bytes k d (omega (arith, e))
