-- Which bytes a list of pieces is written with.
use Rattle.std.specs.Prelude.{◌≡◌, ◌≢◌, ℕ, Bool, true, false, ◌&&◌, ◌⊎◌, List, [], ◌∷◌, ◌++◌, codes, IsUtf8}
use Rattle.bw_lang.specs.Template.MarkupBytes.{ampersand, less_than, greater_than, double_quote, single_quote, equals_sign, open_bracket, close_bracket}
use Rattle.bw_lang.specs.declared.pieces.Tag.{Tag}
use Rattle.bw_lang.specs.declared.pieces.Piece.{Piece}
use Rattle.bw_lang.specs.declared.pieces.Piece.TheVariants as piece
use Rattle.bw_lang.specs.declared.pieces.RawAttr.{RawAttr}
use Rattle.bw_lang.specs.declared.pieces.RawValue.{RawValue}
use Rattle.bw_lang.specs.declared.pieces.RawValue.TheVariants as raw
use Rattle.bw_lang.specs.declared.pieces.NameClass.{NameClass}
use Rattle.bw_lang.specs.declared.pieces.NameClass.TheVariants as class
use Rattle.bw_lang.specs.Text.Bytes.{is_blank}
use Rattle.bw_lang.specs.Template.MarkupNames.{first_of, later_of, begins}

-- each byte passes the test
abbrev pub passes : (ℕ → Bool) → List ℕ → Bool
passes p [] = true
passes p (b ∷ bs) = p b && passes p bs

-- a name of the class: a byte that may begin one, and then bytes that may stand in one
pub record IsNameOf (k : NameClass) (n : List ℕ) : Type 0 where
  pub first : begins (first_of k) n ≡ true
  pub later : passes (later_of k) n ≡ true

-- the references and what they stand for
abbrev pub IsRef : ℕ → List ℕ → Type 0
IsRef c w =
    ((c ≡ ampersand) × (w ≡ codes "&amp;"))
    ⊎ (((c ≡ less_than) × (w ≡ codes "&lt;")) ⊎ (((c ≡ greater_than) × (w ≡ codes "&gt;")) ⊎ ((c ≡ double_quote) × (w ≡ codes "&quot;"))))

-- Here and below: the thing is written at the front of bytes, and rest is behind it.
-- A character of a text or a value that ends in front of stop: itself, or a reference.
abbrev pub IsChar : ℕ → ℕ → List ℕ → List ℕ → Type 0
IsChar stop c bytes rest =
    ((bytes ≡ c ∷ rest) × (c ≢ ampersand) × (c ≢ less_than) × (c ≢ stop))
    ⊎ ((w : List ℕ) × IsRef c w × (bytes ≡ w ++ rest))

-- one after the other
abbrev pub Each : {A : Type 0} → (A → List ℕ → List ℕ → Type 0) → List A → List ℕ → List ℕ → Type 0
Each R [] bytes rest = bytes ≡ rest
Each R (x ∷ xs) bytes rest = (mid : List ℕ) × R x bytes mid × Each R xs mid rest

-- a value between two of the same quotes, or the name of a gap in brackets
abbrev pub IsValue : RawValue → List ℕ → List ℕ → Type 0
IsValue (raw.Fixed v) bytes rest =
    (q : ℕ) × ((q ≡ double_quote) ⊎ (q ≡ single_quote)) × (u : List ℕ) × (bytes ≡ q ∷ u) × Each (IsChar q) v u (q ∷ rest) × IsUtf8 v
IsValue (raw.Hole n) bytes rest = IsNameOf class.Word n × (bytes ≡ open_bracket ∷ (n ++ close_bracket ∷ rest))

-- blanks, one at least, a name, `=` and a value
pub record IsAttr (a : RawAttr) (bytes rest : List ℕ) : Type 0 where
  pub blanks : List ℕ
  pub some_blank : begins is_blank blanks ≡ true
  pub all_blank : passes is_blank blanks ≡ true
  pub name : IsNameOf class.Attr a.name
  pub behind : List ℕ
  pub parts : bytes ≡ blanks ++ (a.name ++ equals_sign ∷ behind)
  pub value : IsValue a.value behind rest

-- a name, attributes and blanks
pub record IsTag (t : Tag) (bytes rest : List ℕ) : Type 0 where
  pub name : IsNameOf class.Tag t.name
  pub behind : List ℕ
  pub parts : bytes ≡ t.name ++ behind
  pub after_attrs : List ℕ
  pub attrs : Each IsAttr t.attrs behind after_attrs
  pub blanks : List ℕ
  pub all_blank : passes is_blank blanks ≡ true
  pub end : after_attrs ≡ blanks ++ rest

-- a piece of each kind
abbrev pub IsPiece : Piece → List ℕ → List ℕ → Type 0
IsPiece (piece.Text s) bytes rest = (s ≢ []) × IsUtf8 s × Each (IsChar less_than) s bytes rest
IsPiece (piece.Gap n) bytes rest = IsNameOf class.Word n × (bytes ≡ codes "<[" ++ (n ++ (codes "]>" ++ rest)))
IsPiece (piece.Start t) bytes rest = (m : List ℕ) × (bytes ≡ less_than ∷ m) × IsTag t m (codes ">" ++ rest)
IsPiece (piece.Whole t) bytes rest = (m : List ℕ) × (bytes ≡ less_than ∷ m) × IsTag t m (codes "/>" ++ rest)
IsPiece (piece.End n) bytes rest =
    IsNameOf class.Tag n × (w : List ℕ) × (passes is_blank w ≡ true) × (bytes ≡ codes "</" ++ (n ++ (w ++ (codes ">" ++ rest))))

-- the piece is a text
abbrev pub is_text : Piece → Bool
is_text (piece.Text s) = true
is_text (piece.Gap n) = false
is_text (piece.Start t) = false
is_text (piece.Whole t) = false
is_text (piece.End n) = false

-- the first piece is a text
abbrev pub begins_with_text : List Piece → Bool
begins_with_text [] = false
begins_with_text (p ∷ ps) = is_text p

-- no two texts are neighbours: each is as long as it can be
abbrev pub Apart : List Piece → Type 0
Apart [] = Unit {0}
Apart (p ∷ ps) = (is_text p && begins_with_text ps ≡ false) × Apart ps

-- the bytes are these pieces one after another
pub record SpellsPieces (ps : List Piece) (bytes : List ℕ) : Type 0 where
  pub apart : Apart ps
  pub pieces : Each IsPiece ps bytes []
