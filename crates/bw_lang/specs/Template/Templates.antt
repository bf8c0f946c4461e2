-- Which bytes are a template or a page.
use Rattle.std.specs.Prelude.{◌≡◌, ◌≤◌, ℕ, false, List, []}
use Rattle.bw_lang.specs.Document.Forest.{Forest}
use Rattle.bw_lang.specs.declared.pieces.Piece.{Piece}
use Rattle.bw_lang.specs.Document.Measures.{nest}
use Rattle.bw_lang.specs.Template.PieceItems.{ReadsAs}
use Rattle.bw_lang.specs.Template.Pieces.{SpellsPieces}
use Rattle.bw_lang.specs.Template.PieceGaps.{gap_names}
use Rattle.bw_lang.specs.Template.RepeatedAttributes.{repeats}

-- Here and below Spelled says which bytes pieces are written with.
-- The bytes are spelled by pieces that read as the items, no tag names an attribute twice, and at most so many elements stand inside one another.
pub record ReadsBy (Spelled : List Piece → List ℕ → Type 0) (names : List (List ℕ)) (most : ℕ) (bytes : List ℕ) (f : Forest) : Type 0 where
  pub pieces : List Piece
  pub spelled : Spelled pieces bytes
  pub once : repeats pieces ≡ false
  pub reads : ReadsAs names pieces f
  pub nested : nest f ≤ most

-- the bytes are a template of these items, whose gaps have their numbers by the table
abbrev pub IsTemplate : List (List ℕ) → ℕ → List ℕ → Forest → Type 0
IsTemplate names most bytes f = ReadsBy SpellsPieces names most bytes f

-- the bytes are these pieces, and there is no gap
pub record SpellsClosed (ps : List Piece) (bytes : List ℕ) : Type 0 where
  pub spells : SpellsPieces ps bytes
  pub closed : gap_names ps ≡ []

-- the bytes are a template of these items without gaps
abbrev pub IsClosedTemplate : ℕ → List ℕ → Forest → Type 0
IsClosedTemplate most bytes f = ReadsBy SpellsClosed [] most bytes f
