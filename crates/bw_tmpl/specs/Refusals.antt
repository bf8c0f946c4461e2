-- Why bytes are no template, or no page.
use Rattle.std.specs.Prelude.{◌≡◌, ◌<◌, ℕ, true, false, List}
use Rattle.bw_lang.specs.Document.Forest.{Forest}
use Rattle.bw_lang.specs.declared.pieces.Piece.{Piece}
use Rattle.bw_tmpl.specs.declared.fault.TmplFault.{TmplFault}
use Rattle.bw_tmpl.specs.declared.fault.TmplFault.TheVariants as fault
use Rattle.bw_lang.specs.Document.Measures.{nest}
use Rattle.bw_lang.specs.Template.PieceItems.{ReadsAs}
use Rattle.bw_lang.specs.Template.Pieces.{SpellsPieces}
use Rattle.bw_lang.specs.Template.Templates.{SpellsClosed}
use Rattle.bw_lang.specs.Template.RepeatedAttributes.{repeats}

-- Here and below Spelled says which bytes pieces are written with.
-- a tag names an attribute twice
pub record Repeats (Spelled : List Piece → List ℕ → Type 0) (bytes : List ℕ) : Type 0 where
  pub pieces : List Piece
  pub spelled : Spelled pieces bytes
  pub twice : repeats pieces ≡ true

-- no tag does, and the pieces read as no items: start tags and end tags don't pair
pub record Mismatches (Spelled : List Piece → List ℕ → Type 0) (bytes : List ℕ) : Type 0 where
  pub pieces : List Piece
  pub spelled : Spelled pieces bytes
  pub once : repeats pieces ≡ false
  pub no_items : (names : List (List ℕ)) (f : Forest) → ReadsAs names pieces f → ⊥

-- no tag does, the pieces read as items, and more elements stand inside one another
pub record NestsDeeper (Spelled : List Piece → List ℕ → Type 0) (most : ℕ) (bytes : List ℕ) : Type 0 where
  pub pieces : List Piece
  pub spelled : Spelled pieces bytes
  pub once : repeats pieces ≡ false
  pub names : List (List ℕ)
  pub items : Forest
  pub reads : ReadsAs names pieces items
  pub deeper : most < nest items

-- Why the bytes aren't read: the first case that holds, in this order.
abbrev pub RefusedBy : (List Piece → List ℕ → Type 0) → ℕ → List ℕ → TmplFault → Type 0
RefusedBy Spelled most bytes fault.Malformed = (ps : List Piece) → Spelled ps bytes → ⊥
RefusedBy Spelled most bytes fault.RepeatedAttribute = Repeats Spelled bytes
RefusedBy Spelled most bytes fault.Mismatched = Mismatches Spelled bytes
RefusedBy Spelled most bytes fault.Nesting = NestsDeeper Spelled most bytes
RefusedBy Spelled most bytes fault.Memory = Unit {0}

-- the bytes are no template, for this reason
abbrev pub IsTemplateRefused : ℕ → List ℕ → TmplFault → Type 0
IsTemplateRefused most bytes e = RefusedBy SpellsPieces most bytes e

-- the bytes are no template without gaps, for this reason
abbrev pub IsClosedRefused : ℕ → List ℕ → TmplFault → Type 0
IsClosedRefused most bytes e = RefusedBy SpellsClosed most bytes e
