-- Items that are read are such that they can be read back.
use Rattle.std.proofs.Common.{◌≡◌, ℕ, Bool, true, false, ◌⊎◌, inl, inr, List, [], ◌∷◌, map, refl, sym, ap, subst, ◌∙◌}
use Rattle.std.specs.Prelude.{◌||◌, IsUtf8}
use Rattle.bw_lang.specs.declared.items.Attr.{Attr}
use Rattle.bw_lang.specs.Document.Forest.{Forest, none, text, gap, element}
use Rattle.bw_lang.specs.Template.Markup.{is_void}
use Rattle.bw_lang.specs.declared.pieces.NameClass.TheVariants as class
use Rattle.bw_lang.specs.declared.pieces.RawAttr.{RawAttr}
use Rattle.bw_lang.specs.declared.pieces.RawValue.{RawValue}
use Rattle.bw_lang.specs.declared.pieces.RawValue.TheVariants as raw
use Rattle.bw_lang.specs.declared.pieces.Tag.{Tag}
use Rattle.bw_lang.specs.declared.pieces.Piece.{Piece}
use Rattle.bw_lang.specs.declared.pieces.Piece.TheVariants as piece
use Rattle.bw_lang.specs.Template.NumberedGaps.{numbered, numbered_value}
use Rattle.bw_lang.specs.Template.PieceItems.{ReadsPieces}
use Rattle.bw_lang.specs.Template.RepeatedAttributes.{repeated, attr_names, piece_repeats, repeats}
use Rattle.bw_lang.specs.Template.Pieces.{IsNameOf, IsAttr, IsTag, IsValue, IsPiece, Each}
use Rattle.bw_tmpl.specs.Markup.{IsValueOf, AreAttrs, names_of, IsMarkup}
use Rattle.bw_tmpl.specs.Laws.{ReadsMarkup}

abbrev GoodValue : RawValue → Type 0
GoodValue (raw.Fixed v) = IsUtf8 v
GoodValue (raw.Hole n) = Unit {0}

abbrev GoodAttrs : List RawAttr → Type 0
GoodAttrs [] = Unit {0}
GoodAttrs (a ∷ attrs) = IsNameOf class.Attr a.name × GoodValue a.value × GoodAttrs attrs

record GoodTag (t : Tag) : Type 0 where
  name : IsNameOf class.Tag t.name
  attrs : GoodAttrs t.attrs
  once : repeated (attr_names t.attrs) ≡ false

abbrev Good : Piece → Type 0
Good (piece.Text s) = IsUtf8 s
Good (piece.Gap n) = Unit {0}
Good (piece.Start t) = GoodTag t
Good (piece.Whole t) = GoodTag t
Good (piece.End n) = Unit {0}

abbrev AllGood : List Piece → Type 0
AllGood [] = Unit {0}
AllGood (p ∷ ps) = Good p × AllGood ps

good_value : (v : RawValue) (bytes rest : List ℕ) → IsValue v bytes rest → GoodValue v
good_value (raw.Fixed v) bytes rest h = h.5
good_value (raw.Hole n) bytes rest h = tt

good_attrs : (attrs : List RawAttr) (bytes rest : List ℕ) → Each IsAttr attrs bytes rest → GoodAttrs attrs
good_attrs [] bytes rest h = tt
good_attrs (a ∷ attrs) bytes rest h = let k = h.1 in (k.name, good_value a.value k.behind h.0 k.value, good_attrs attrs h.0 rest h.2)

good_tag : (t : Tag) (bytes rest : List ℕ) → IsTag t bytes rest → repeated (attr_names t.attrs) ≡ false → GoodTag t
good_tag t bytes rest h r = record { name = h.name; attrs = good_attrs t.attrs h.behind h.after_attrs h.attrs; once = r }

good_piece : (p : Piece) (bytes rest : List ℕ) → IsPiece p bytes rest → piece_repeats p ≡ false → Good p
good_piece (piece.Text s) bytes rest h r = h.1
good_piece (piece.Gap n) bytes rest h r = tt
good_piece (piece.Start t) bytes rest h r = good_tag t h.0 _ h.2 r
good_piece (piece.Whole t) bytes rest h r = good_tag t h.0 _ h.2 r
good_piece (piece.End n) bytes rest h r = tt

neither : (b c : Bool) → (b || c) ≡ false → (b ≡ false) × (c ≡ false)
neither true c h = absurd (cc)
neither false c h = (refl, h)

all_good : (ps : List Piece) (bytes rest : List ℕ) → Each IsPiece ps bytes rest → repeats ps ≡ false → AllGood ps
all_good [] bytes rest h r = tt
all_good (p ∷ ps) bytes rest h r = let k = neither (piece_repeats p) (repeats ps) r in (good_piece p bytes h.0 h.1 k.0, all_good ps h.0 rest h.2 k.1)

-- ---- attributes by number

numbered_text : (names : List (List ℕ)) (v : RawValue) → GoodValue v → IsValueOf (Unit {0}) (numbered_value names v)
numbered_text names (raw.Fixed v) h = h
numbered_text names (raw.Hole n) h = tt

numbered_attrs : (names : List (List ℕ)) (attrs : List RawAttr) → GoodAttrs attrs → AreAttrs (Unit {0}) (map (numbered names) attrs)
numbered_attrs names [] h = tt
numbered_attrs names (a ∷ attrs) h = (h.0, numbered_text names a.value h.1, numbered_attrs names attrs h.2)

names_numbered : (names : List (List ℕ)) (attrs : List RawAttr) → names_of (map (numbered names) attrs) ≡ attr_names attrs
names_numbered names [] = refl
names_numbered names (a ∷ attrs) = ap (λ (l : List (List ℕ)). a.name ∷ l) (names_numbered names attrs)

-- ---- items

abbrev Both : Forest → List Piece → Type 0
Both f rest = IsMarkup f × AllGood rest

element_kept : (names : List (List ℕ)) (tag : List ℕ) (attrs : List Attr) (inner f : Forest) (t : Tag) (rest : List Piece) → tag ≡ t.name
    → attrs ≡ map (numbered names) t.attrs → GoodTag t → (is_void t.name ≡ true → inner ≡ none) → IsMarkup inner → Both f rest
    → Both (element tag attrs inner f) rest
element_kept names tag attrs inner f t rest p q g v k b = (
  (
    subst (IsNameOf class.Tag) (sym p) g.name,
    subst (AreAttrs (Unit {0})) (sym q) (numbered_attrs names t.attrs g.attrs),
    ap (λ (l : List Attr). repeated (names_of l)) q ∙ ap repeated (names_numbered names t.attrs) ∙ g.once,
    λ (h : is_void tag ≡ true). v (ap is_void (sym p) ∙ h),
    k,
    b.0,
  ),
  b.1,
)

none_kept : (inner : Forest) → inner ≡ none → IsMarkup inner
none_kept inner e = subst IsMarkup (sym e) tt

not_void : (t : Tag) (inner : Forest) → is_void t.name ≡ false → is_void t.name ≡ true → inner ≡ none
not_void t inner a b = absurd (true_false (sym b ∙ a))
  where
    true_false : true ≡ false → ⊥
    true_false p = cc

abbrev BothRead : List (List ℕ) → Forest → Type 0
BothRead names f = (ps rest : List Piece) → AllGood ps → ReadsPieces names f ps rest → Both f rest

by_case : (names : List (List ℕ)) (tag : List ℕ) (attrs : List Attr) (inner f : Forest) (t : Tag) (ps qs rest : List Piece) → BothRead names inner
    → BothRead names f → AllGood ps → ReadsPieces names f qs rest → tag ≡ t.name → attrs ≡ map (numbered names) t.attrs
    → (((ps ≡ piece.Whole t ∷ qs) × (inner ≡ none))
    ⊎ (((ps ≡ piece.Start t ∷ qs) × (is_void t.name ≡ true) × (inner ≡ none))
    ⊎ ((mid : List Piece) × (ps ≡ piece.Start t ∷ mid) × (is_void t.name ≡ false) × ReadsPieces names inner mid (piece.End t.name ∷ qs))))
    → Both (element tag attrs inner f) rest
by_case names tag attrs inner f t ps qs rest hi hf g r p q (inl w) =
    let a : AllGood (piece.Whole t ∷ qs) = subst AllGood w.0 g in
    element_kept names tag attrs inner f t rest p q a.0 (λ (v : is_void t.name ≡ true). w.1) (none_kept inner w.1) (hf qs rest a.1 r)
by_case names tag attrs inner f t ps qs rest hi hf g r p q (inr (inl w)) =
    let a : AllGood (piece.Start t ∷ qs) = subst AllGood w.0 g in
    element_kept names tag attrs inner f t rest p q a.0 (λ (v : is_void t.name ≡ true). w.2) (none_kept inner w.2) (hf qs rest a.1 r)
by_case names tag attrs inner f t ps qs rest hi hf g r p q (inr (inr w)) =
    let a : AllGood (piece.Start t ∷ w.0) = subst AllGood w.1 g in
    let i : Both inner (piece.End t.name ∷ qs) = hi w.0 (piece.End t.name ∷ qs) a.1 w.3 in
    element_kept names tag attrs inner f t rest p q a.0 (not_void t inner w.2) i.0 (hf qs rest i.1.1 r)

reads_both : (names : List (List ℕ)) (f : Forest) → BothRead names f
reads_both names none ps rest g h = (tt, subst AllGood h g)
reads_both names (text s f) ps rest g h =
    let a : AllGood (piece.Text s ∷ h.0) = subst AllGood h.1 g in let b = reads_both names f h.0 rest a.1 h.2 in ((a.0, b.0), b.1)
reads_both names (gap k f) ps rest g h =
    let a : AllGood (piece.Gap h.1.0 ∷ h.0) = subst AllGood h.1.1 g in let b = reads_both names f h.0 rest a.1 h.2 in ((tt, b.0), b.1)
reads_both names (element tag attrs inner f) ps rest g h =
    by_case names tag attrs inner f h.1.0 ps h.0 rest (reads_both names inner) (reads_both names f) g h.2 h.1.1 h.1.2 h.1.3

pub reads_markup : ReadsMarkup
reads_markup names most bytes f h = (reads_both names f h.pieces [] (all_good h.pieces bytes [] h.spelled.pieces h.once) h.reads).0
