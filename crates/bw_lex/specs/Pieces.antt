-- The piece that stands at the front of some bytes: blanks or a comment, a token, or a fault.
use Rattle.std.specs.Prelude.{ℕ, ◌+◌, ◌-◌, Bool, true, false, nat_eq, nat_le, ◌==◌, ◌||◌, if◌then◌else◌, List, [], ◌∷◌, ◌++◌, codes, take_while, drop}
use Rattle.std.specs.List.{prefix_len, starts_with}
use Rattle.std.specs.Str.{byte}
use Rattle.bw_lang.specs.declared.token.TokenKind.TheVariants as kinds
use Rattle.bw_lex.specs.declared.pieces.FaultKind.TheVariants as faults
use Rattle.bw_lex.specs.declared.pieces.Piece.{Piece}
use Rattle.bw_lex.specs.declared.pieces.Piece.TheVariants as pieces
use Rattle.bw_lex.specs.declared.pieces.StringByte.{StringByte}
use Rattle.bw_lex.specs.declared.pieces.StringByte.TheVariants as inside
use Rattle.bw_lang.specs.Text.Bytes.{is_blank, is_letter, is_digit, is_word_byte, is_on_line, is_sign, is_pair}
use Rattle.bw_lang.specs.Text.TokenForms.{value}

-- the digits at the front, as a number
abbrev pub number : List ℕ → Piece
number bytes =
    if nat_le (value (take_while is_digit bytes)) 9_223_372_036_854_775_807
    then pieces.Token (kinds.Number (value (take_while is_digit bytes))) (prefix_len is_digit bytes)
    else pieces.Fault faults.NumberTooBig 0

-- what a byte of a string is; escaped: behind the backslash of an escape
abbrev pub string_byte : Bool → ℕ → StringByte
string_byte true b = if b == byte "\"" || b == byte "\\" then inside.Stands b else if b == byte "n" then inside.Stands (byte "\n") else inside.NoEscape
string_byte false b =
    if b == byte "\"" then inside.Closes else if b == byte "\n" then inside.BreaksLine else if b == byte "\\" then inside.Escapes else inside.Stands b

-- what comes of a string at a byte, where the first n bytes, the quote among them, stand for the text, and the byte
-- may stand for one more or begin an escape
abbrev pub string_at : StringByte → List ℕ → ℕ → (ℕ → Piece) → Piece → Piece
string_at (inside.Stands c) text n stands escapes = stands c
string_at inside.Escapes text n stands escapes = escapes
string_at inside.Closes text n stands escapes = pieces.Token (kinds.Str text) (n + 1)
string_at inside.BreaksLine text n stands escapes = pieces.Fault faults.OpenString 0
string_at inside.NoEscape text n stands escapes = pieces.Fault faults.BadByte (n - 1)

-- a string of which the first n bytes, the quote among them, stand for the text; escaped: the last of these is the
-- backslash of an escape; bad: a byte that is no UTF-8 follows the last
abbrev pub string : Bool → Bool → List ℕ → ℕ → List ℕ → Piece
string bad escaped text n [] =
    if escaped then pieces.Fault faults.BadByte (n - 1) else if bad then pieces.Fault faults.BadByte n else pieces.Fault faults.OpenString 0
string bad escaped text n (b ∷ bs) =
    string_at (string_byte escaped b) text n (λ c. string bad false (text ++ c ∷ []) (n + 1) bs) (string bad true text (n + 1) bs)

-- the rest of a template behind its first n bytes; bad: a byte that is no UTF-8 follows the last
abbrev pub template : Bool → ℕ → List ℕ → Piece
template bad n [] = if bad then pieces.Fault faults.BadByte n else pieces.Fault faults.OpenTemplate 0
template bad n (b ∷ bs) =
    if starts_with nat_eq (b ∷ bs) (codes "</html>") then pieces.Token kinds.Template (n + 7)
    else template bad (n + 1) bs

-- the longest sign at the front
unfoldable pub sign : List ℕ → Piece
sign [] = pieces.Fault faults.BadByte 0
sign (a ∷ []) = if is_sign a then pieces.Token kinds.Sign 1 else pieces.Fault faults.BadByte 0
sign (a ∷ b ∷ bs) = if is_pair a b then pieces.Token kinds.Sign 2 else if is_sign a then pieces.Token kinds.Sign 1 else pieces.Fault faults.BadByte 0

-- what stands at the front; bad: a byte that is no UTF-8 follows the last
unfoldable pub piece : Bool → List ℕ → Piece
piece bad [] = pieces.Fault faults.BadByte 0
piece bad (b ∷ bs) =
    if is_blank b then pieces.Gap 1
    else if is_letter b then pieces.Token kinds.Word (prefix_len is_word_byte (b ∷ bs))
    else if is_digit b then number (b ∷ bs)
    else if b == byte "\"" then string bad false [] 1 bs
    else if starts_with nat_eq (b ∷ bs) (codes "//") then pieces.Gap (prefix_len is_on_line (b ∷ bs))
    else if starts_with nat_eq (b ∷ bs) (codes "<html>") then template bad 6 (drop 6 (b ∷ bs))
    else sign (b ∷ bs)
