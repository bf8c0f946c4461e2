-- The forms of what stands in a text: of blanks, comments and tokens.
use Rattle.std.specs.Prelude.{◌≡◌, ◌≢◌, ◌⊎◌, ℕ, ◌+◌, ◌-◌, ◌*◌, ◌<◌, ◌^◌, List, [], ◌∷◌, ◌++◌, IsTrue, codes, fold}
use Rattle.std.specs.List.{AllPass}
use Rattle.std.specs.Str.{byte}
use Rattle.bw_lang.specs.declared.token.TokenKind.{TokenKind}
use Rattle.bw_lang.specs.declared.token.TokenKind.TheVariants as kinds
use Rattle.bw_lang.specs.Text.Bytes.{is_blank, is_letter, is_digit, is_word_byte, is_on_line, is_sign, is_pair}

-- a letter or `_`, and then letters, digits and `_`
abbrev pub IsWord : List ℕ → Type 0
IsWord [] = ⊥
IsWord (b ∷ bs) = IsTrue (is_letter b) × AllPass is_word_byte bs

-- the value of decimal digits
abbrev pub value : List ℕ → ℕ
value digits = fold (λ v d. v * 10 + (d - byte "0")) 0 digits

-- digits of this value
abbrev pub IsNumber : ℕ → List ℕ → Type 0
IsNumber v own = (own ≢ []) × AllPass is_digit own × (value own ≡ v)

-- the bytes begin with one that stands for the byte c of a string's text, or with an escape that does, and the rest
-- stands behind
abbrev pub StandsFor : ℕ → List ℕ → List ℕ → Type 0
StandsFor c bytes rest =
    ((bytes ≡ c ∷ rest) × (c ≢ byte "\"") × (c ≢ byte "\\") × (c ≢ byte "\n"))
    ⊎ (((bytes ≡ byte "\\" ∷ c ∷ rest) × ((c ≡ byte "\"") ⊎ (c ≡ byte "\\")))
    ⊎ ((bytes ≡ codes "\\n" ++ rest) × (c ≡ byte "\n")))

-- the bytes begin with some that stand for the text, and the rest stands behind
abbrev pub SpellsText : List ℕ → List ℕ → List ℕ → Type 0
SpellsText [] bytes rest = bytes ≡ rest
SpellsText (c ∷ text) bytes rest = (mid : List ℕ) × StandsFor c bytes mid × SpellsText text mid rest

-- a quote, bytes that stand for the text, and a quote
abbrev pub IsString : List ℕ → List ℕ → Type 0
IsString text own = (inside : List ℕ) × (own ≡ byte "\"" ∷ inside) × SpellsText text inside (byte "\"" ∷ [])

-- there is no `</html>` in the bytes
abbrev pub HasNoEnd : List ℕ → Type 0
HasNoEnd inside = (front back : List ℕ) → inside ≢ front ++ (codes "</html>" ++ back)

-- `<html>`, bytes without `</html>`, and `</html>`
abbrev pub IsTemplateToken : List ℕ → Type 0
IsTemplateToken own = (inside : List ℕ) × (own ≡ codes "<html>" ++ (inside ++ codes "</html>")) × HasNoEnd inside

-- one of the signs
abbrev pub IsSign : List ℕ → Type 0
IsSign [] = ⊥
IsSign (a ∷ []) = IsTrue (is_sign a)
IsSign (a ∷ b ∷ []) = IsTrue (is_pair a b)
IsSign (a ∷ b ∷ c ∷ bs) = ⊥

-- the form of a token
abbrev pub HasForm : TokenKind → List ℕ → Type 0
HasForm kinds.Word own = IsWord own
HasForm (kinds.Number v) own = IsNumber v own
HasForm (kinds.Str text) own = IsString text own
HasForm kinds.Template own = IsTemplateToken own
HasForm kinds.Sign own = IsSign own

-- the value of a number is below 2^63
abbrev pub IsHeld : TokenKind → Type 0
IsHeld kinds.Word = Unit {0}
IsHeld (kinds.Number v) = v < 2 ^ 63
IsHeld (kinds.Str text) = Unit {0}
IsHeld kinds.Template = Unit {0}
IsHeld kinds.Sign = Unit {0}

-- a blank, or a comment: `//` and bytes of its line
abbrev pub IsGap : List ℕ → Type 0
IsGap own = ((b : ℕ) × (own ≡ b ∷ []) × IsTrue (is_blank b)) ⊎ ((line : List ℕ) × (own ≡ codes "//" ++ line) × AllPass is_on_line line)

-- a template up to some place in front of its end
abbrev pub BeginsTemplate : List ℕ → Type 0
BeginsTemplate own = (inside : List ℕ) × (own ≡ codes "<html>" ++ inside) × HasNoEnd inside

-- what may stand at a place; a template counts from its `<html>` on, so that no `<` in front of `html>` is a sign
abbrev pub IsTokenPiece : List ℕ → Type 0
IsTokenPiece own = IsGap own ⊎ (((kind : TokenKind) × HasForm kind own) ⊎ BeginsTemplate own)
