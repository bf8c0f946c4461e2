-- Attributes that a tag names twice.
use Rattle.std.specs.Prelude.{ℕ, Bool, false, ◌||◌, List, [], ◌∷◌, map}
use Rattle.std.specs.List.{list_any}
use Rattle.bw_lang.specs.Table.Names.{same}
use Rattle.bw_lang.specs.declared.pieces.Piece.{Piece}
use Rattle.bw_lang.specs.declared.pieces.Piece.TheVariants as piece
use Rattle.bw_lang.specs.declared.pieces.RawAttr.{RawAttr}

-- a name stands in the list twice
abbrev pub repeated : List (List ℕ) → Bool
repeated [] = false
repeated (n ∷ names) = list_any (same n) names || repeated names

-- the names of attributes
abbrev pub attr_names : List RawAttr → List (List ℕ)
attr_names attrs = map (λ a. a.name) attrs

-- the piece is a tag that names an attribute twice
abbrev pub piece_repeats : Piece → Bool
piece_repeats (piece.Text s) = false
piece_repeats (piece.Gap n) = false
piece_repeats (piece.Start t) = repeated (attr_names t.attrs)
piece_repeats (piece.Whole t) = repeated (attr_names t.attrs)
piece_repeats (piece.End n) = false

-- a piece is such a tag
abbrev pub repeats : List Piece → Bool
repeats ps = list_any piece_repeats ps
