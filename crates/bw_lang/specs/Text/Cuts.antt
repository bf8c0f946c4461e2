-- A text is cut into its tokens.
use Rattle.std.specs.Prelude.{◌≡◌, ℕ, ◌+◌, ◌<◌, ◌≤◌, List, [], ◌∷◌, ◌++◌, length}
use Rattle.std.specs.List.{slice_range}
use Rattle.std.specs.Str.{IsUtf8}
use Rattle.bw_lang.specs.declared.token.Token.{Token}
use Rattle.bw_lang.specs.declared.token.TokenKind.{TokenKind}
use Rattle.bw_lang.specs.declared.token.TokenKind.TheVariants as kinds
use Rattle.bw_lang.specs.Text.TokenForms.{HasForm, IsHeld, IsGap, IsTokenPiece}

-- no more of the rest belongs to it: it would be nothing that may stand at a place
abbrev pub IsLongest : List ℕ → List ℕ → Type 0
IsLongest own rest = (more less : List ℕ) → rest ≡ more ++ less → IsTokenPiece (own ++ more) → more ≡ []

-- The bytes from place at on are blanks, comments and these tokens, each the longest piece that begins at its place.
pub data Cuts : ℕ → List ℕ → List Token → Type 0 where
  nothing : (at : ℕ) → Cuts at [] []
  gap : (at : ℕ) (own rest : List ℕ) (tokens : List Token) → IsGap own → IsLongest own rest →
      Cuts (at + length own) rest tokens → Cuts at (own ++ rest) tokens
  token : (at : ℕ) (kind : TokenKind) (own rest : List ℕ) (tokens : List Token) → HasForm kind own → IsHeld kind → IsLongest own rest →
      Cuts (at + length own) rest tokens → Cuts at (own ++ rest) (record { what = kind; start = at; end = at + length own } ∷ tokens)

-- the tokens of a text, which is UTF-8
abbrev pub AreTokens : List ℕ → List Token → Type 0
AreTokens bytes tokens = IsUtf8 bytes × Cuts 0 bytes tokens

-- the text of a string is UTF-8
abbrev pub HasText : TokenKind → Type 0
HasText kinds.Word = Unit {0}
HasText (kinds.Number v) = Unit {0}
HasText (kinds.Str text) = IsUtf8 text
HasText kinds.Template = Unit {0}
HasText kinds.Sign = Unit {0}

-- a token stands where it says, in its form
pub record StandsIn (bytes : List ℕ) (token : Token) : Type 0 where
  pub some : token.start < token.end
  pub inside : token.end ≤ length bytes
  pub form : HasForm token.what (slice_range bytes token.start token.end)
  pub held : IsHeld token.what
  pub text : HasText token.what
