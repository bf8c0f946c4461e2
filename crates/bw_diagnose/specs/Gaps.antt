-- The gaps of a template, found among the bytes of its inside.
use Rattle.std.specs.Prelude.{◌≡◌, ℕ, Bool, false, ◌==◌, ◌||◌, if◌then◌else◌, List, [], ◌∷◌, ◌++◌, take}
use Rattle.bw_lang.specs.Template.PieceGaps.{gap_names}
use Rattle.bw_lang.specs.Template.Pieces.{SpellsPieces}
use Rattle.bw_lang.specs.declared.pieces.Piece.{Piece}
use Rattle.bw_diagnose.specs.Places.{word_length}
use Rattle.bw_diagnose.specs.declared.gaps.Part.{Part}
use Rattle.bw_diagnose.specs.declared.gaps.Part.TheVariants as parts

-- where the byte behind this one stands: `<` begins a tag and `>` ends it, and in a tag values stand between quotes
abbrev pub part_behind : Part → ℕ → Part
part_behind parts.Outside b = if b == 60 then parts.Tag else parts.Outside
part_behind parts.Tag b = if b == 62 then parts.Outside else (if b == 34 || b == 39 then parts.Quoted b else parts.Tag)
part_behind (parts.Quoted quote) b = if b == quote then parts.Tag else parts.Quoted quote

-- a gap is a name behind `[`, and stands in a tag or behind `<`
abbrev pub opens_gap : Part → ℕ → Bool
opens_gap parts.Tag b = b == 91
opens_gap part b = false

-- the gap that begins at a byte, if one does; these bytes stand behind it
abbrev pub gap_there : Part → ℕ → List ℕ → List (List ℕ)
gap_there part b behind = if opens_gap part b then take (word_length behind) behind ∷ [] else []

-- all gaps of these bytes, each as often as it stands
abbrev pub gaps_in : Part → List ℕ → List (List ℕ)
gaps_in part [] = []
gaps_in part (b ∷ bs) = gap_there part b bs ++ gaps_in (part_behind part b) bs

-- where bytes are pieces, they are the gaps of those
abbrev pub GapsAreFound : Type 0
GapsAreFound = (ps : List Piece) (bytes : List ℕ) → SpellsPieces ps bytes → gaps_in parts.Outside bytes ≡ gap_names ps
