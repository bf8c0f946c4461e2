-- The tokens of a text, or the first fault.
use Rattle.std.specs.Prelude.{ℕ, zero, suc, ◌+◌, ◌-◌, Bool, nat_lt, if◌then◌else◌, List, [], ◌∷◌, ◌++◌, length, take, Result, Ok, Err}
use Rattle.std.specs.Str.Lossy.{utf8_valid_len}
use Rattle.bw_lang.specs.declared.token.Token.{Token}
use Rattle.bw_lex.specs.declared.LexFault.{LexFault}
use Rattle.bw_lex.specs.declared.LexFault.TheVariants as faults
use Rattle.bw_lex.specs.declared.pieces.FaultKind.{FaultKind}
use Rattle.bw_lex.specs.declared.pieces.FaultKind.TheVariants as kinds
use Rattle.bw_lex.specs.declared.pieces.Piece.{Piece}
use Rattle.bw_lex.specs.declared.pieces.Piece.TheVariants as pieces
use Rattle.bw_lex.specs.Pieces.{piece}

abbrev pub Reading : Type 0
Reading = Result (List Token) LexFault

abbrev pub fault_at : FaultKind → ℕ → LexFault
fault_at kinds.BadByte at = faults.BadByte at
fault_at kinds.OpenString at = faults.OpenString at
fault_at kinds.OpenTemplate at = faults.OpenTemplate at
fault_at kinds.NumberTooBig at = faults.NumberTooBig at

-- the bytes that belong to a piece
abbrev pub piece_len : Piece → ℕ
piece_len (pieces.Gap n) = n
piece_len (pieces.Token kind n) = n
piece_len (pieces.Fault kind n) = 0

-- tokens in front of those of a reading
abbrev pub onto : List Token → Reading → Reading
onto tokens (Ok more) = Ok (tokens ++ more)
onto tokens (Err fault) = Err fault

-- a piece at place at, and what the rest reads as
abbrev pub with_rest : ℕ → Piece → Reading → Reading
with_rest at (pieces.Gap n) rest = rest
with_rest at (pieces.Token kind n) rest = onto (record { what = kind; start = at; end = at + n } ∷ []) rest
with_rest at (pieces.Fault kind n) rest = Err (fault_at kind (at + n))

-- what the bytes from place at on read as, where the first ones, inner in number, belong to a piece before;
-- bad: a byte that is no UTF-8 follows the last
unfoldable pub scan : Bool → ℕ → ℕ → List ℕ → Reading
scan bad inner at [] = if bad then Err (faults.BadByte at) else Ok []
scan bad (suc inner) at (b ∷ bs) = scan bad inner (at + 1) bs
scan bad zero at (b ∷ bs) = with_rest at (piece bad (b ∷ bs)) (scan bad (piece_len (piece bad (b ∷ bs)) - 1) (at + 1) bs)

-- the tokens of a text: of its longest front that is UTF-8
abbrev pub tokens_of : List ℕ → Reading
tokens_of bytes = scan (nat_lt (utf8_valid_len bytes) (length bytes)) 0 0 (take (utf8_valid_len bytes) bytes)
