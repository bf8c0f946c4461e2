-- A text without gaps, whose items are built while it is read.
use Rattle.std.specs.Prelude.{◌≡◌, ℕ, Bool, true, false, ◌&&◌, ◌==◌, not, nat_lt, if◌then◌else◌, List, [], ◌∷◌, length, Option, Some, None}
use Rattle.std.specs.Bool.{MatchBool}
use Rattle.bw_lang.specs.Document.Forest.{Forest}
use Rattle.bw_lang.specs.Template.PieceGaps.{attr_gaps}
use Rattle.bw_lang.specs.Template.RepeatedAttributes.{repeated, attr_names}
use Rattle.bw_lang.specs.declared.pieces.Tag.{Tag}
use Rattle.bw_lang.specs.declared.pieces.Piece.{Piece}
use Rattle.bw_lang.specs.declared.pieces.Piece.TheVariants as piece
use Rattle.bw_tmpl.specs.declared.building.Draft.{Draft}
use Rattle.bw_tmpl.specs.Building.{nothing_built, draft_after, finished}
use Rattle.bw_tmpl.specs.Steps.Reading.{each, piece_at}

-- there is no name
abbrev pub is_nothing : List (List ℕ) → Bool
is_nothing [] = true
is_nothing (n ∷ names) = false

-- A tag suits that stands inside fewer than the most elements, has no gap and names no attribute twice.
abbrev pub tag_suits : ℕ → ℕ → Tag → Bool
tag_suits most around t = nat_lt around most && (is_nothing (attr_gaps t.attrs) && not (repeated (attr_names t.attrs)))

-- a piece suits that is no gap, and no tag that doesn't
abbrev pub suits : ℕ → ℕ → Piece → Bool
suits most around (piece.Text s) = true
suits most around (piece.Gap n) = false
suits most around (piece.Whole t) = tag_suits most around t
suits most around (piece.Start t) = tag_suits most around t
suits most around (piece.End n) = true

-- what a piece does that suits
abbrev pub suiting : List (List ℕ) → ℕ → Draft → Piece → Option Draft
suiting names most b p = if suits most (length b.parents) p then draft_after names b p else None

-- what pieces do that all suit, one after the other
abbrev pub suiting_all : List (List ℕ) → ℕ → Option Draft → List Piece → Option Draft
suiting_all names most None ps = None
suiting_all names most (Some b) [] = Some b
suiting_all names most (Some b) (p ∷ ps) = suiting_all names most (suiting names most b p) ps

-- what the pieces do that all of the bytes are
abbrev pub filled : List (List ℕ) → ℕ → Draft → List ℕ → Option Draft
filled names most b bytes =
    let t = each piece_at bytes in if length t.1 == 0 then suiting_all names most (Some b) t.0 else None

-- whether there is a draft, and this is it
abbrev pub Tells : Bool → Option Draft → Draft → Type 0
Tells b o d = MatchBool b (o ≡ Some d) (o ≡ None)

-- the items that all of the bytes are
abbrev pub at_once : List (List ℕ) → ℕ → List ℕ → Option Forest
at_once names most bytes = finished (filled names most nothing_built bytes)
