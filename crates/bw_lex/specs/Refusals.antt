-- A text is refused for the first fault in it.
use Rattle.std.specs.Prelude.{◌≡◌, ◌≢◌, ◌⊎◌, ℕ, ◌+◌, ◌≤◌, ◌^◌, Bool, true, false, List, [], ◌∷◌, ◌++◌, length, take, codes}
use Rattle.std.specs.Str.{IsUtf8, IsValidUpTo, byte}
use Rattle.bw_lang.specs.declared.token.TokenKind.{TokenKind}
use Rattle.bw_lex.specs.declared.LexFault.{LexFault}
use Rattle.bw_lex.specs.declared.LexFault.TheVariants as faults
use Rattle.bw_lang.specs.Text.Cuts.{IsLongest}
use Rattle.bw_lang.specs.Text.TokenForms.{HasForm, IsHeld, IsGap, IsTokenPiece, IsNumber, SpellsText, HasNoEnd}

-- none of the three that may stand behind a backslash
abbrev pub EndsNoEscape : List ℕ → Type 0
EndsNoEscape [] = Unit {0}
EndsNoEscape (b ∷ bs) = (b ≢ byte "\"") × (b ≢ byte "\\") × (b ≢ byte "n")

-- no piece stands at the front
abbrev pub BeginsNothing : List ℕ → Type 0
BeginsNothing bytes = (own rest : List ℕ) → bytes ≡ own ++ rest → IsTokenPiece own → own ≡ []

-- The fault that stands at place at, from which on the text has these bytes; bad: it ends at a byte that is no UTF-8.
pub data Stops (bad : Bool) (at : ℕ) : List ℕ → LexFault → Type 0 where
  -- that byte is here
  bad_byte : bad ≡ true → Stops bad at [] (faults.BadByte at)
  -- no string begins here, and nothing else that may stand here
  stray_byte : (b : ℕ) (bs : List ℕ) → b ≢ byte "\"" → BeginsNothing (b ∷ bs) → Stops bad at (b ∷ bs) (faults.BadByte at)
  -- a string comes to that byte
  bad_byte_in_string : (text inside : List ℕ) → bad ≡ true → SpellsText text inside [] →
      Stops bad at (byte "\"" ∷ inside) (faults.BadByte (at + (1 + length inside)))
  -- a string comes to a backslash that begins no escape
  no_escape : (text inside rest : List ℕ) → SpellsText text inside [] → EndsNoEscape rest →
      Stops bad at (byte "\"" ∷ (inside ++ byte "\\" ∷ rest)) (faults.BadByte (at + (1 + length inside)))
  -- a string comes to the end of its line, or of the text
  broken_string : (text inside rest : List ℕ) → SpellsText text inside [] →
      Stops bad at (byte "\"" ∷ (inside ++ byte "\n" ∷ rest)) (faults.OpenString at)
  open_string : (text inside : List ℕ) → bad ≡ false → SpellsText text inside [] → Stops bad at (byte "\"" ∷ inside) (faults.OpenString at)
  -- a template comes to that byte, or to the end of the text
  bad_byte_in_template : (inside : List ℕ) → bad ≡ true → HasNoEnd inside →
      Stops bad at (codes "<html>" ++ inside) (faults.BadByte (at + (6 + length inside)))
  open_template : (inside : List ℕ) → bad ≡ false → HasNoEnd inside → Stops bad at (codes "<html>" ++ inside) (faults.OpenTemplate at)
  -- digits have a greater value than a number may have
  big_number : (v : ℕ) (own rest : List ℕ) → IsNumber v own → 2 ^ 63 ≤ v → Stops bad at (own ++ rest) (faults.NumberTooBig at)

-- The bytes from place at on are blanks, comments and tokens, each the longest piece that begins at its place, up to
-- this fault.
pub data MeetsFault (bad : Bool) : ℕ → List ℕ → LexFault → Type 0 where
  stop : (at : ℕ) (bytes : List ℕ) (fault : LexFault) → Stops bad at bytes fault → MeetsFault bad at bytes fault
  gap : (at : ℕ) (own rest : List ℕ) (fault : LexFault) → IsGap own → IsLongest own rest →
      MeetsFault bad (at + length own) rest fault → MeetsFault bad at (own ++ rest) fault
  token : (at : ℕ) (kind : TokenKind) (own rest : List ℕ) (fault : LexFault) → HasForm kind own → IsHeld kind → IsLongest own rest →
      MeetsFault bad (at + length own) rest fault → MeetsFault bad at (own ++ rest) fault

-- the first fault of a text: in it, or in its longest front that is UTF-8 and at the byte behind that
abbrev pub IsTextRefused : List ℕ → LexFault → Type 0
IsTextRefused bytes fault = (IsUtf8 bytes × MeetsFault false 0 bytes fault) ⊎ ((n : ℕ) × IsValidUpTo bytes n × MeetsFault true 0 (take n bytes) fault)
