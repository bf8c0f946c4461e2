-- How many elements stand inside one another, by the tags alone.
use Rattle.std.specs.Prelude.{ℕ, suc, max, if◌then◌else◌, List, [], ◌∷◌, length, Option, Some, None}
use Rattle.bw_lang.specs.Template.Markup.{is_void}
use Rattle.bw_lang.specs.declared.pieces.Piece.{Piece}
use Rattle.bw_lang.specs.declared.pieces.Piece.TheVariants as piece
use Rattle.bw_tmpl.specs.declared.nesting.OpenTags.{OpenTags}
use Rattle.bw_lang.specs.Table.Names.{same}

-- no element is open
abbrev pub no_tags : OpenTags
no_tags = record { names = []; deepest = 0 }

-- one more element stands in those that are open, for a moment
abbrev pub one_deeper : OpenTags → OpenTags
one_deeper w = record { names = w.names; deepest = max w.deepest (suc (length w.names)) }

-- a start tag opens an element
abbrev pub tag_opened : List ℕ → OpenTags → OpenTags
tag_opened n w = record { names = n ∷ w.names; deepest = w.deepest }

-- an end tag of the innermost open element's name closes it
abbrev pub tag_closed : List (List ℕ) → ℕ → List ℕ → Option OpenTags
tag_closed [] deepest n = None
tag_closed (m ∷ names) deepest n = if same m n then Some (record { names = names; deepest = deepest }) else None

-- what each kind of piece does
abbrev pub tags_after : OpenTags → Piece → Option OpenTags
tags_after w (piece.Text s) = Some w
tags_after w (piece.Gap n) = Some w
tags_after w (piece.Whole t) = Some (one_deeper w)
tags_after w (piece.Start t) = if is_void t.name then Some (one_deeper w) else Some (tag_opened t.name (one_deeper w))
tags_after w (piece.End n) = tag_closed w.names w.deepest n

-- what the pieces do, one after the other
abbrev pub tags_after_all : Option OpenTags → List Piece → Option OpenTags
tags_after_all None ps = None
tags_after_all (Some w) [] = Some w
tags_after_all (Some w) (p ∷ ps) = tags_after_all (tags_after w p) ps

-- the greatest number, if no element is open
abbrev pub if_all_closed : List (List ℕ) → ℕ → Option ℕ
if_all_closed [] deepest = Some deepest
if_all_closed (n ∷ names) deepest = None

-- the greatest number at the end, if the tags pair
abbrev pub deepest_if_closed : Option OpenTags → Option ℕ
deepest_if_closed None = None
deepest_if_closed (Some w) = if_all_closed w.names w.deepest

-- how many elements stand inside one another at most, if the tags pair
abbrev pub depth : List Piece → Option ℕ
depth ps = deepest_if_closed (tags_after_all (Some no_tags) ps)
