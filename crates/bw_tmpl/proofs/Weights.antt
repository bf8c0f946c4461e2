-- The items of a template are bounded by its bytes.
use Rattle.std.proofs.Common.{◌≡◌, ◌≤◌, ◌+◌, ◌*◌, ℕ, inl, inr, List, [], ◌∷◌, map, length, refl, ap, arith, length-append}
use Rattle.std.specs.List.{sum_by}
use Rattle.std.proofs.lemmas.List.Sums.{sum_by-cons}
use Rattle.bw_lang.specs.declared.items.Attr.{Attr}
use Rattle.bw_lang.specs.declared.pieces.RawAttr.{RawAttr}
use Rattle.bw_lang.specs.declared.pieces.RawValue.{RawValue}
use Rattle.bw_lang.specs.declared.pieces.RawValue.TheVariants as raw
use Rattle.bw_lang.specs.declared.pieces.Tag.{Tag}
use Rattle.bw_lang.specs.declared.pieces.Piece.{Piece}
use Rattle.bw_lang.specs.declared.pieces.Piece.TheVariants as piece
use Rattle.bw_lang.specs.Document.Forest.{Forest, none, text, gap, element}
use Rattle.bw_lang.specs.Document.Measures.{value_bytes, items_weight}
use Rattle.bw_lang.specs.Template.MarkupBytes.{less_than}
use Rattle.bw_lang.specs.Template.NumberedGaps.{numbered, numbered_value}
use Rattle.bw_lang.specs.Template.PieceItems.{ReadsPieces}
use Rattle.bw_lang.specs.Template.Pieces.{IsRef, IsChar, Each, IsValue, IsAttr, IsTag, IsPiece}
use Rattle.bw_tmpl.specs.Laws.{ItemsBounded}
use Rattle.bw_tmpl.proofs.GapLaws.{Ways}

-- ---- what pieces take, and the bytes that they are written with

abbrev attrs_weight : List Attr → ℕ
attrs_weight attrs = sum_by (λ a. 64 + value_bytes a.value) attrs

abbrev piece_weight : List (List ℕ) → Piece → ℕ
piece_weight names (piece.Text s) = 64 + length s
piece_weight names (piece.Gap n) = 64
piece_weight names (piece.Start t) = 64 + attrs_weight (map (numbered names) t.attrs)
piece_weight names (piece.Whole t) = 64 + attrs_weight (map (numbered names) t.attrs)
piece_weight names (piece.End n) = 0

abbrev pieces_weight : List (List ℕ) → List Piece → ℕ
pieces_weight names [] = 0
pieces_weight names (p ∷ ps) = piece_weight names p + pieces_weight names ps

ref_length : (c : ℕ) (w : List ℕ) → IsRef c w → 1 ≤ length w
ref_length c w (inl h) = omega (arith, ap length h.1)
ref_length c w (inr (inl h)) = omega (arith, ap length h.1)
ref_length c w (inr (inr (inl h))) = omega (arith, ap length h.1)
ref_length c w (inr (inr (inr h))) = omega (arith, ap length h.1)

char_length : (stop c : ℕ) (bytes rest : List ℕ) → IsChar stop c bytes rest → 1 + length rest ≤ length bytes
char_length stop c bytes rest (inl h) = omega (arith, ap length h.0)
char_length stop c bytes rest (inr h) = omega (arith, length-append {A = ℕ}, ap length h.2, ref_length c h.0 h.1)

chars_length : (stop : ℕ) (s bytes rest : List ℕ) → Each (IsChar stop) s bytes rest → length s + length rest ≤ length bytes
chars_length stop [] bytes rest h = omega (arith, ap length h)
chars_length stop (c ∷ s) bytes rest h = omega (arith, char_length stop c bytes h.0 h.1, chars_length stop s h.0 rest h.2)

value_length : (names : List (List ℕ)) (v : RawValue) (bytes rest : List ℕ) → IsValue v bytes rest
    → value_bytes (numbered_value names v) + length rest ≤ length bytes
value_length names (raw.Fixed v) bytes rest h = omega (arith, ap length h.3, chars_length h.0 v h.2 (h.0 ∷ rest) h.4)
value_length names (raw.Hole n) bytes rest h = omega (arith, length-append {A = ℕ}, ap length h.1)

attr_bounded : (names : List (List ℕ)) (a : RawAttr) (bytes rest : List ℕ) → IsAttr a bytes rest
    → 64 + value_bytes (numbered_value names a.value) + 65 * length rest ≤ 65 * length bytes
attr_bounded names a bytes rest h =
    omega (arith, length-append {A = ℕ}, ap length h.parts, value_length names a.value h.behind rest h.value)

attrs_bounded : (names : List (List ℕ)) (attrs : List RawAttr) (bytes rest : List ℕ) → Each IsAttr attrs bytes rest
    → attrs_weight (map (numbered names) attrs) + 65 * length rest ≤ 65 * length bytes
attrs_bounded names [] bytes rest h = omega (arith, ap length h)
attrs_bounded names (a ∷ attrs) bytes rest h =
    omega (
      arith,
      sum_by-cons (λ (b : Attr). 64 + value_bytes b.value) (numbered names a) (map (numbered names) attrs),
      attr_bounded names a bytes h.0 h.1,
      attrs_bounded names attrs h.0 rest h.2,
    )

tag_bounded : (names : List (List ℕ)) (t : Tag) (bytes rest : List ℕ) → IsTag t bytes rest
    → attrs_weight (map (numbered names) t.attrs) + 65 * length rest ≤ 65 * length bytes
tag_bounded names t bytes rest h =
    omega (arith, length-append {A = ℕ}, ap length h.parts, attrs_bounded names t.attrs h.behind h.after_attrs h.attrs, ap length h.end)

piece_bounded : (names : List (List ℕ)) (p : Piece) (bytes rest : List ℕ) → IsPiece p bytes rest → piece_weight names p + 65 * length rest ≤ 65 * length bytes
piece_bounded names (piece.Text []) bytes rest h = absurd (h.0 refl)
piece_bounded names (piece.Text (c ∷ s)) bytes rest h = omega (arith, chars_length less_than (c ∷ s) bytes rest h.2)
piece_bounded names (piece.Gap n) bytes rest h = omega (arith, length-append {A = ℕ}, ap length h.1)
piece_bounded names (piece.Start t) bytes rest h = omega (arith, ap length h.1, tag_bounded names t h.0 (62 ∷ rest) h.2)
piece_bounded names (piece.Whole t) bytes rest h = omega (arith, ap length h.1, tag_bounded names t h.0 (47 ∷ 62 ∷ rest) h.2)
piece_bounded names (piece.End n) bytes rest h = omega (arith, length-append {A = ℕ}, ap length h.3)

pieces_bounded : (names : List (List ℕ)) (ps : List Piece) (bytes rest : List ℕ) → Each IsPiece ps bytes rest
    → pieces_weight names ps + 65 * length rest ≤ 65 * length bytes
pieces_bounded names [] bytes rest h = omega (arith, ap length h)
pieces_bounded names (p ∷ ps) bytes rest h = omega (arith, piece_bounded names p bytes h.0 h.1, pieces_bounded names ps h.0 rest h.2)

-- ---- items take what their pieces take

abbrev Weighed : List (List ℕ) → Forest → Type 0
Weighed names f = (ps rest : List Piece) → ReadsPieces names f ps rest → pieces_weight names ps ≡ items_weight f + pieces_weight names rest

element_weighed : (names : List (List ℕ)) (inner : Forest) (ps qs : List Piece) (t : Tag) → Weighed names inner → Ways names inner t ps qs
    → pieces_weight names ps ≡ 64 + attrs_weight (map (numbered names) t.attrs) + items_weight inner + pieces_weight names qs
element_weighed names inner ps qs t ih (inl w) = omega (arith, ap (pieces_weight names) w.0, ap items_weight w.1)
element_weighed names inner ps qs t ih (inr (inl w)) = omega (arith, ap (pieces_weight names) w.0, ap items_weight w.2)
element_weighed names inner ps qs t ih (inr (inr w)) = omega (arith, ap (pieces_weight names) w.1, ih w.0 (piece.End t.name ∷ qs) w.3)

weighed : (names : List (List ℕ)) (f : Forest) → Weighed names f
weighed names none ps rest h = omega (arith, ap (pieces_weight names) h)
weighed names (text s f) ps rest h = omega (arith, ap (pieces_weight names) h.1, weighed names f h.0 rest h.2)
weighed names (gap g f) ps rest h = omega (arith, ap (pieces_weight names) h.1.1, weighed names f h.0 rest h.2)
weighed names (element tag attrs inner f) ps rest h =
    omega (arith, element_weighed names inner ps h.0 h.1.0 (weighed names inner) h.1.3, ap attrs_weight h.1.2, weighed names f h.0 rest h.2)

pub items_bounded : ItemsBounded
items_bounded names most bytes f h = omega (arith, weighed names f h.pieces [] h.reads, pieces_bounded names h.pieces bytes [] h.spelled.pieces)
