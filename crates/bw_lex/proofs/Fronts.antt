-- What the first bytes make of the piece.
use Rattle.std.proofs.Common.{◌≡◌, ℕ, Bool, true, false, List, [], ◌∷◌, ◌++◌, refl, ap, ◌∙◌, arith, codes, nat_eq, ◌==◌, if◌then◌else◌}
use Rattle.std.specs.List.{prefix_len, starts_with}
use Rattle.std.proofs.lemmas.Bool.Decides.{nat_tests}
use Rattle.bw_lang.specs.declared.token.TokenKind.TheVariants as kinds
use Rattle.bw_lex.specs.declared.pieces.Piece.TheVariants as pieces
use Rattle.bw_lang.specs.Text.Bytes.{is_blank, is_letter, is_digit, is_word_byte, is_on_line, is_sign, is_pair}
use Rattle.bw_lex.specs.Pieces.{number, string, template, sign, piece}

if_true : {X : Type 0} (c : Bool) (x y : X) → c ≡ true → (if c then x else y) ≡ x
if_true c x y h = ap (λ b. if b then x else y) h

if_false : {X : Type 0} (c : Bool) (x y : X) → c ≡ false → (if c then x else y) ≡ y
if_false c x y h = ap (λ b. if b then x else y) h

pub piece-blank : (bad : Bool) (b : ℕ) (bs : List ℕ) → is_blank b ≡ true → piece bad (b ∷ bs) ≡ pieces.Gap 1
unfolding piece
piece-blank bad b bs h = if_true (is_blank b) _ _ h

pub piece-word : (bad : Bool) (b : ℕ) (bs : List ℕ) → is_letter b ≡ true → piece bad (b ∷ bs) ≡ pieces.Token kinds.Word (prefix_len is_word_byte (b ∷ bs))
unfolding piece
piece-word bad b bs h =
    let blank : is_blank b ≡ false = grind (arith, nat_tests) in
    if_false (is_blank b) _ _ blank ∙ if_true (is_letter b) _ _ h

pub piece-number : (bad : Bool) (b : ℕ) (bs : List ℕ) → is_digit b ≡ true → piece bad (b ∷ bs) ≡ number (b ∷ bs)
unfolding piece
piece-number bad b bs h =
    let blank : is_blank b ≡ false = grind (arith, nat_tests) in
    let letter : is_letter b ≡ false = grind (arith, nat_tests) in
    if_false (is_blank b) _ _ blank ∙ (if_false (is_letter b) _ _ letter ∙ if_true (is_digit b) _ _ h)

pub piece-string : (bad : Bool) (bs : List ℕ) → piece bad (34 ∷ bs) ≡ string bad false [] 1 bs
unfolding piece
piece-string bad bs = refl

pub piece-comment : (bad : Bool) (bs : List ℕ) → piece bad (codes "//" ++ bs) ≡ pieces.Gap (prefix_len is_on_line (codes "//" ++ bs))
unfolding piece
piece-comment bad bs = refl

pub piece-template : (bad : Bool) (bs : List ℕ) → piece bad (codes "<html>" ++ bs) ≡ template bad 6 bs
unfolding piece
piece-template bad bs = refl

pub piece-pair : (bad : Bool) (a b : ℕ) (bs : List ℕ) → is_pair a b ≡ true → piece bad (a ∷ b ∷ bs) ≡ pieces.Token kinds.Sign 2
unfolding piece sign
piece-pair bad a b bs h =
    let blank : is_blank a ≡ false = grind (arith, nat_tests) in
    let letter : is_letter a ≡ false = grind (arith, nat_tests) in
    let digit : is_digit a ≡ false = grind (arith, nat_tests) in
    let quote : (a == 34) ≡ false = grind (arith, nat_tests) in
    let line : starts_with nat_eq (a ∷ b ∷ bs) (codes "//") ≡ false = grind (arith, nat_tests) in
    let html : starts_with nat_eq (a ∷ b ∷ bs) (codes "<html>") ≡ false = grind (arith, nat_tests) in
    if_false (is_blank a) _ _ blank ∙ (if_false (is_letter a) _ _ letter ∙ (if_false (is_digit a) _ _ digit ∙ (if_false (a == 34) _ _ quote
    ∙ (if_false (starts_with nat_eq (a ∷ b ∷ bs) (codes "//")) _ _ line
    ∙ (if_false (starts_with nat_eq (a ∷ b ∷ bs) (codes "<html>")) _ _ html ∙ if_true (is_pair a b) _ _ h)))))

-- the bytes of a sign begin nothing else
pub sign_alone : (a : ℕ) → is_sign a ≡ true → (is_blank a ≡ false) × (is_letter a ≡ false) × (is_digit a ≡ false) × ((a == 34) ≡ false)
sign_alone a h = (grind (arith, nat_tests), grind (arith, nat_tests), grind (arith, nat_tests), grind (arith, nat_tests))
