-- Which items a list of pieces reads as.
use Rattle.std.specs.Prelude.{◌≡◌, ℕ, true, false, ◌⊎◌, List, [], ◌∷◌, map}
use Rattle.bw_lang.specs.Document.Forest.{Forest, none, text, gap, element}
use Rattle.bw_lang.specs.Template.Markup.{is_void}
use Rattle.bw_lang.specs.declared.pieces.Tag.{Tag}
use Rattle.bw_lang.specs.declared.pieces.Piece.{Piece}
use Rattle.bw_lang.specs.declared.pieces.Piece.TheVariants as piece
use Rattle.bw_lang.specs.Table.Names.{name_number}
use Rattle.bw_lang.specs.Template.NumberedGaps.{numbered}

-- The pieces ps are those of the items, and then the pieces rest. One case for each kind of item.
abbrev pub ReadsPieces : List (List ℕ) → Forest → List Piece → List Piece → Type 0
ReadsPieces names none ps rest = ps ≡ rest
ReadsPieces names (text s f) ps rest = (qs : List Piece) × (ps ≡ piece.Text s ∷ qs) × ReadsPieces names f qs rest
ReadsPieces names (gap g f) ps rest = (qs : List Piece) × ((n : List ℕ) × (ps ≡ piece.Gap n ∷ qs) × (g ≡ name_number names n)) × ReadsPieces names f qs rest
ReadsPieces names (element tag attrs inner f) ps rest =
    (qs : List Piece) ×
    ((t : Tag) × (tag ≡ t.name) × (attrs ≡ map (numbered names) t.attrs) ×
    -- a whole tag
    (((ps ≡ piece.Whole t ∷ qs) × (inner ≡ none)) ⊎
    -- a start tag of one of the six
    (((ps ≡ piece.Start t ∷ qs) × (is_void t.name ≡ true) × (inner ≡ none)) ⊎
    -- a start tag of none of the six, items, and the end tag of its name
    ((mid : List Piece) × (ps ≡ piece.Start t ∷ mid) × (is_void t.name ≡ false) × ReadsPieces names inner mid (piece.End t.name ∷ qs)))))
    × ReadsPieces names f qs rest

-- all of the pieces
abbrev pub ReadsAs : List (List ℕ) → List Piece → Forest → Type 0
ReadsAs names ps f = ReadsPieces names f ps []
