-- Targets, and the paths that they lead to.
use Rattle.std.specs.Prelude.{◌≡◌, ◌≢◌, ℕ, ◌/◌, ◌%◌, ◌^◌, ◌<◌, ◌≤◌, zero, suc, Bool, ◌==◌, ◌||◌, cond, List, [], ◌∷◌, ◌++◌, length, take, drop, codes, decimal}
use Rattle.std.specs.Prelude.{⊤}
use Rattle.std.specs.List.{position_or_len}
use Rattle.std.specs.Str.{byte}
use Rattle.std.specs.Char.{digit_char}
use Rattle.bw_lang.specs.Text.Bytes.{is_digit, is_between}
use Rattle.bw_lang.specs.Text.TokenForms.{IsWord}
use Rattle.bw_http.specs.Decisions.{same_word}
use Rattle.bw_http.specs.declared.request.Path.{Path}
use Rattle.bw_http.specs.declared.request.Path.TheVariants.{Index, Start, Turn, Other}
use Rattle.bw_lang.specs.declared.limits.TheConstants.{MAX_NAME_BYTES}

abbrev pub is_question : ℕ → Bool
is_question b = b == byte "?"

abbrev pub is_slash : ℕ → Bool
is_slash b = b == byte "/"

-- the bytes before the first `?`, or all of them
abbrev pub before_query : List ℕ → List ℕ
before_query target = take (position_or_len is_question target) target

-- the bytes from the first `/`, or that alone where there is none
abbrev pub from_slash : List ℕ → List ℕ
from_slash [] = codes "/"
from_slash (b ∷ bytes) = cond (is_slash b) (b ∷ bytes) (from_slash bytes)

-- the path without the scheme and the authority of a target in absolute form (RFC 9112, section 3.2.2)
abbrev pub after_authority : List ℕ → List ℕ
after_authority path = cond (same_word (take 7 path) (codes "http://")) (from_slash (drop 7 path)) path

-- the part of a target that says which path it leads to
abbrev pub path_part : List ℕ → List ℕ
path_part target = after_authority (before_query target)

-- so many hexadecimal digits of a number, in lower case, the last ones
abbrev pub hex_digits : ℕ → ℕ → List ℕ
hex_digits zero n = []
hex_digits (suc width) n = hex_digits width (n / 16) ++ digit_char (n % 16) ∷ []

-- the spelling of a path of one of the three forms: `/`, `/NAME` and `/s/NUMBER-KEY/TURN`
abbrev pub spelling : Path → List ℕ
spelling Index = codes "/"
spelling (Start name) = codes "/" ++ name
spelling (Turn number key turn) = codes "/s/" ++ (decimal number ++ (codes "-" ++ (hex_digits 16 key ++ (codes "/" ++ decimal turn))))
spelling Other = []

-- a number from 1 to 4,294,967,295
abbrev pub IsCount : ℕ → Type 0
IsCount n = (0 < n) × (n < 2 ^ 32)

-- it is of one of the three forms: its name is a word of at most 64 bytes, its numbers count, and its key fits 64 bits
abbrev pub IsForm : Path → Type 0
IsForm Index = ⊤
IsForm (Start name) = IsWord name × (length name ≤ MAX_NAME_BYTES)
IsForm (Turn number key turn) = IsCount number × (key < 2 ^ 64) × IsCount turn
IsForm Other = ⊥

-- the bytes are the path's: it is of one of the three forms, and they are its spelling; or it is Other, and they are
-- the spelling of none
abbrev pub IsPath : List ℕ → Path → Type 0
IsPath bytes Index = bytes ≡ spelling Index
IsPath bytes (Start name) = IsForm (Start name) × (bytes ≡ spelling (Start name))
IsPath bytes (Turn number key turn) = IsForm (Turn number key turn) × (bytes ≡ spelling (Turn number key turn))
IsPath bytes Other = (path : Path) → IsForm path → bytes ≢ spelling path

-- the path that a target leads to
abbrev pub LeadsTo : List ℕ → Path → Type 0
LeadsTo target path = IsPath (path_part target) path

-- a digit, or a letter from `a` to `f`
abbrev pub is_key_digit : ℕ → Bool
is_key_digit b = is_digit b || is_between (byte "a") (byte "f") b

-- the bytes spell the turn of this number, key and turn, and those of no turn
abbrev pub SpellsTurn : (bytes : List ℕ) → (number key turn : ℕ) → Type 0
SpellsTurn bytes number key turn = IsPath bytes (Turn number key turn)

abbrev pub SpellsNoTurn : List ℕ → Type 0
SpellsNoTurn bytes = (number key turn : ℕ) → IsForm (Turn number key turn) → bytes ≢ spelling (Turn number key turn)

-- the bytes spell the start of the session of this name, and that of none
abbrev pub SpellsName : List ℕ → List ℕ → Type 0
SpellsName bytes name = IsPath bytes (Start name)

abbrev pub SpellsNoName : List ℕ → Type 0
SpellsNoName bytes = (name : List ℕ) → IsForm (Start name) → bytes ≢ spelling (Start name)

-- the mark doesn't stand in the text
abbrev pub HasNo : ℕ → List ℕ → Type 0
HasNo mark text = (front rest : List ℕ) → text ≢ front ++ mark ∷ rest

-- the text is cut at its first mark
abbrev pub IsCutAt : ℕ → List ℕ → List ℕ → List ℕ → Type 0
IsCutAt mark text front rest = (text ≡ front ++ mark ∷ rest) × HasNo mark front
