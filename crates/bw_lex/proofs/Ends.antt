-- Each piece ends within its bytes.
use Rattle.std.proofs.Common.{◌≡◌, ℕ, suc, ◌+◌, ◌≤◌, Bool, true, false, List, [], ◌∷◌, ◌++◌, length, get_or, take, drop, ap, arith, codes, nat_eq, nat_le, cond}
use Rattle.std.specs.List.{prefix_len, starts_with}
use Rattle.std.proofs.lemmas.List.{length-drop}
use Rattle.std.proofs.lemmas.List.Sums.{prefix_len-le-length}
use Rattle.std.proofs.lemmas.Bool.Decides.{nat_tests}
use Rattle.bw_lex.specs.declared.pieces.Piece.{Piece}
use Rattle.bw_lex.specs.declared.pieces.Piece.TheVariants as pieces
use Rattle.bw_lex.specs.declared.pieces.StringByte.{StringByte}
use Rattle.bw_lex.specs.declared.pieces.StringByte.TheVariants as inside
use Rattle.bw_lang.specs.Text.Bytes.{is_digit, is_word_byte, is_on_line, is_sign, is_pair}
use Rattle.bw_lang.specs.Text.TokenForms.{value}
use Rattle.bw_lex.specs.Pieces.{number, string_at, string_byte, string, template, sign, piece}
use Rattle.bw_lex.proofs.Branches.{Branch, blank, word, digits, quoted, comment, markup, other, branch, starts, if_branch}

-- it has a byte or more, of which there are so many, and a fault's place is no further than their end
abbrev pub Ends : Piece → ℕ → Type 0
Ends (pieces.Gap n) most = (1 ≤ n) × (n ≤ most)
Ends (pieces.Token kind n) most = (1 ≤ n) × (n ≤ most)
Ends (pieces.Fault kind n) most = n ≤ most

-- the first byte passes, so a byte or more do
pub some : (p : ℕ → Bool) (b : ℕ) (bs : List ℕ) → p b ≡ true → (1 ≤ prefix_len p (b ∷ bs)) × (prefix_len p (b ∷ bs) ≤ suc (length bs))
some p b bs h = (omega (arith, ap (λ t. cond t (1 + prefix_len p bs) 0) h), prefix_len-le-length p (b ∷ bs))

number-ends : (b : ℕ) (bs : List ℕ) → is_digit b ≡ true → Ends (number (b ∷ bs)) (suc (length bs))
number-ends b bs h =
    if_branch (λ p. Ends p (suc (length bs))) (nat_le (value (take (prefix_len is_digit (b ∷ bs)) (b ∷ bs))) 9_223_372_036_854_775_807) _ _
    (λ g. some is_digit b bs h) (λ g. omega arith)

string_at-ends : (s : StringByte) (text : List ℕ) (n most : ℕ) (stands : ℕ → Piece) (escapes : Piece) → 1 ≤ n → n + 1 ≤ most
    → ((c : ℕ) → Ends (stands c) most) → Ends escapes most → Ends (string_at s text n stands escapes) most
string_at-ends (inside.Stands c) text n most stands escapes h g f e = f c
string_at-ends inside.Escapes text n most stands escapes h g f e = e
string_at-ends inside.Closes text n most stands escapes h g f e = (omega arith, g)
string_at-ends inside.BreaksLine text n most stands escapes h g f e = omega arith
string_at-ends inside.NoEscape text n most stands escapes h g f e = omega arith

string-ends : (bad escaped : Bool) (text : List ℕ) (n most : ℕ) (bs : List ℕ) → 1 ≤ n → n + length bs ≤ most → Ends (string bad escaped text n bs) most
string-ends bad true text n most [] h g = omega arith
string-ends true false text n most [] h g = omega arith
string-ends false false text n most [] h g = omega arith
string-ends bad escaped text n most (b ∷ bs) h g =
    string_at-ends (string_byte escaped b) text n most _ _ h (omega arith)
    (λ c. string-ends bad false (text ++ c ∷ []) (n + 1) most bs (omega arith) (omega arith))
    (string-ends bad true text (n + 1) most bs (omega arith) (omega arith))

template-ends : (bad : Bool) (n most : ℕ) (bs : List ℕ) → 1 ≤ n → n + length bs ≤ most → Ends (template bad n bs) most
template-ends true n most [] h g = omega arith
template-ends false n most [] h g = omega arith
template-ends bad n most (b ∷ bs) h g =
    if_branch (λ p. Ends p most) (starts_with nat_eq (b ∷ bs) (codes "</html>")) _ _
    (λ e. let l = ap length (starts (b ∷ bs) (codes "</html>") e) in (omega arith, omega (arith, l)))
    (λ e. template-ends bad (n + 1) most bs (omega arith) (omega arith))

sign-ends : (bs : List ℕ) → Ends (sign bs) (length bs)
unfolding sign
sign-ends [] = omega arith
sign-ends (a ∷ []) = if_branch (λ p. Ends p 1) (is_sign a) _ _ (λ h. (omega arith, omega arith)) (λ h. omega arith)
sign-ends (a ∷ b ∷ bs) =
    let P : Piece → Type 0 = λ p. Ends p (suc (suc (length bs))) in
    if_branch P (is_pair a b) _ _ (λ h. (omega arith, omega arith)) (λ g. if_branch P (is_sign a) _ _ (λ h. (omega arith, omega arith)) (λ h. omega arith))

branch-ends : (bad : Bool) (b : ℕ) (bs : List ℕ) (p : Piece) → Branch bad b bs p → Ends p (suc (length bs))
branch-ends bad b bs p (blank h) = (omega arith, omega arith)
branch-ends bad b bs p (word h) = some is_word_byte b bs (grind (arith, nat_tests))
branch-ends bad b bs p (digits h) = number-ends b bs h
branch-ends bad b bs p (quoted h) = string-ends bad false [] 1 (suc (length bs)) bs (omega arith) (omega arith)
branch-ends bad b bs p (comment h) =
    let slash : b ≡ 47 = ap (λ l. get_or l 0 0) h in
    some is_on_line b bs (grind (arith, nat_tests))
branch-ends bad b bs p (markup h) = template-ends bad 6 (suc (length bs)) (drop 6 (b ∷ bs)) (omega arith) (omega (arith, length-drop 6 (b ∷ bs), ap length h))
branch-ends bad b bs p (other h1 h2 h3 h4 h5 h6) = sign-ends (b ∷ bs)

pub piece-ends : (bad : Bool) (bs : List ℕ) → Ends (piece bad bs) (length bs)
unfolding piece
piece-ends bad [] = omega arith
piece-ends bad (b ∷ bs) = branch-ends bad b bs (piece bad (b ∷ bs)) (branch bad b bs)
