-- What is printed is read back.
use Rattle.std.proofs.Common.{◌≡◌, ◌≤◌, ℕ, suc, max, Bool, true, false, List, [], ◌∷◌, ◌++◌, map, refl, sym, ap, subst, ◌∙◌}
use Rattle.std.specs.Prelude.{◌&&◌, ◌||◌, IsUtf8}
use Rattle.std.proofs.lemmas.List.{append-nil}
use Rattle.std.proofs.lemmas.Str.{IsUtf8-append}
use Rattle.bw_lang.specs.declared.items.Attr.{Attr}
use Rattle.bw_lang.specs.declared.items.AttrValue.{AttrValue}
use Rattle.bw_lang.specs.declared.items.AttrValue.TheVariants as value
use Rattle.bw_lang.specs.Document.Forest.{Forest, none, text, gap, element}
use Rattle.bw_lang.specs.Template.Markup.{is_void}
use Rattle.bw_lang.specs.Document.Print.{print, text_before, joined}
use Rattle.bw_lang.specs.declared.pieces.Piece.{Piece}
use Rattle.bw_lang.specs.declared.pieces.Piece.TheVariants as piece
use Rattle.bw_lang.specs.Document.Measures.{nest}
use Rattle.bw_lang.specs.Template.PieceItems.{ReadsPieces}
use Rattle.bw_lang.specs.Template.RepeatedAttributes.{repeated, attr_names, piece_repeats, repeats}
use Rattle.bw_lang.specs.Template.Pieces.{Each, IsPiece, is_text, begins_with_text, Apart, SpellsPieces}
use Rattle.bw_tmpl.specs.Markup.{IsValueOf, AreAttrs, IsClosedMarkup}
use Rattle.bw_lang.specs.Template.PieceGaps.{value_gaps, attr_gaps, gap_names}
use Rattle.bw_tmpl.specs.Laws.{ReadsBack}
use Rattle.bw_tmpl.proofs.GapLaws.{gap_names_append}
use Rattle.bw_lang.proofs.PrintLaws.{joined_alike}
use Rattle.bw_tmpl.proofs.BackPieces.{raw_value, raw_attr, raw_names, tag_of, element_pieces, written, starts_text, Tidy, prints, reads_written}
use Rattle.std.proofs.Math.Bool.{and-false}

-- ---- texts are apart, and no attribute stands twice

begins_written : (f : Forest) → IsClosedMarkup f → starts_text f ≡ false → begins_with_text (written f) ≡ false
begins_written none s h = refl
begins_written (text x f) s h = absurd (cc)
begins_written (gap g f) s h = absurd s.0
begins_written (element tag attrs inner f) s h = by_void (is_void tag)
  where
    by_void : (v : Bool) → begins_with_text (element_pieces v (tag_of tag attrs) (written inner) (written f)) ≡ false
    by_void true = refl
    by_void false = refl

begins_append : (p : Piece) (ps : List Piece) (n : List ℕ) (qs : List Piece) → (is_text p && begins_with_text ps) ≡ false
    → (is_text p && begins_with_text (ps ++ piece.End n ∷ qs)) ≡ false
begins_append p [] n qs h = and-false (is_text p)
begins_append p (x ∷ ps) n qs h = h

apart_append : (ps : List Piece) (n : List ℕ) (qs : List Piece) → Apart ps → Apart qs → Apart (ps ++ piece.End n ∷ qs)
apart_append [] n qs p q = (refl, q)
apart_append (x ∷ ps) n qs p q = (begins_append x ps n qs p.0, apart_append ps n qs p.1 q)

apart_written : (f : Forest) → IsClosedMarkup f → Tidy f → Apart (written f)
apart_written none s t = tt
apart_written (text x f) s t = (begins_written f s.1 t.1, apart_written f s.1 t.2)
apart_written (gap g f) s t = absurd s.0
apart_written (element tag attrs inner f) s t = by_void (is_void tag) (apart_written inner s.4 t.0) (apart_written f s.5 t.1)
  where
    by_void : (v : Bool) → Apart (written inner) → Apart (written f) → Apart (element_pieces v (tag_of tag attrs) (written inner) (written f))
    by_void true p q = (refl, q)
    by_void false p q = (refl, apart_append (written inner) tag (written f) p q)

repeats_append : (ps qs : List Piece) → repeats ps ≡ false → repeats qs ≡ false → repeats (ps ++ qs) ≡ false
repeats_append [] qs p q = q
repeats_append (x ∷ ps) qs p q = by_piece (piece_repeats x) p (λ (h : repeats ps ≡ false). repeats_append ps qs h q)
  where
    by_piece : (v : Bool) → (v || repeats ps) ≡ false → (repeats ps ≡ false → repeats (ps ++ qs) ≡ false) → (v || repeats (ps ++ qs)) ≡ false
    by_piece true h ih = h
    by_piece false h ih = ih h

repeats_written : (f : Forest) → IsClosedMarkup f → repeats (written f) ≡ false
repeats_written none s = refl
repeats_written (text x f) s = repeats_written f s.1
repeats_written (gap g f) s = absurd s.0
repeats_written (element tag attrs inner f) s = by_void (is_void tag) (repeats_written inner s.4) (repeats_written f s.5)
  where
    once : repeated (attr_names (map raw_attr attrs)) ≡ false
    once = ap repeated (raw_names attrs) ∙ s.2

    by_void : (v : Bool) → repeats (written inner) ≡ false → repeats (written f) ≡ false
        → repeats (element_pieces v (tag_of tag attrs) (written inner) (written f)) ≡ false
    by_void true p q = ap (λ (v : Bool). v || repeats (written f)) once ∙ q
    by_void false p q =
        ap (λ (v : Bool). v || repeats (written inner ++ piece.End tag ∷ written f)) once ∙ repeats_append (written inner) (piece.End tag ∷ written f) p q

-- ---- no gap is written

value_gapless : (v : AttrValue) → IsValueOf ⊥ v → value_gaps (raw_value v) ≡ []
value_gapless (value.Fixed v) h = refl
value_gapless (value.Hole g) h = absurd h

attrs_gapless : (attrs : List Attr) → AreAttrs ⊥ attrs → attr_gaps (map raw_attr attrs) ≡ []
attrs_gapless [] h = refl
attrs_gapless (a ∷ attrs) h = (λ i. value_gapless a.value h.1 i ++ attr_gaps (map raw_attr attrs)) ∙ attrs_gapless attrs h.2

gapless_append : (ps qs : List Piece) → gap_names ps ≡ [] → gap_names qs ≡ [] → gap_names (ps ++ qs) ≡ []
gapless_append ps qs p q = gap_names_append ps qs ∙ (λ i. p i ++ q i)

written_gapless : (f : Forest) → IsClosedMarkup f → gap_names (written f) ≡ []
written_gapless none s = refl
written_gapless (text x f) s = written_gapless f s.1
written_gapless (gap g f) s = absurd s.0
written_gapless (element tag attrs inner f) s = by_void (is_void tag) (attrs_gapless attrs s.1) (written_gapless inner s.4) (written_gapless f s.5)
  where
    by_void : (v : Bool) → attr_gaps (map raw_attr attrs) ≡ [] → gap_names (written inner) ≡ [] → gap_names (written f) ≡ []
        → gap_names (element_pieces v (tag_of tag attrs) (written inner) (written f)) ≡ []
    by_void true a p q = λ i. a i ++ q i
    by_void false a p q = λ i. a i ++ gapless_append (written inner) (piece.End tag ∷ written f) p q i

-- ---- joining

text_before_sound : (x : List ℕ) (f : Forest) → IsUtf8 x → IsClosedMarkup f → IsClosedMarkup (text_before x f)
text_before_sound [] f u s = s
text_before_sound (b ∷ x) none u s = (u, tt)
text_before_sound (b ∷ x) (text y f) u s = (IsUtf8-append (b ∷ x) y u s.0, s.1)
text_before_sound (b ∷ x) (gap g f) u s = absurd s.0
text_before_sound (b ∷ x) (element tag attrs inner f) u s = (u, s)

pub joined_sound : (f : Forest) → IsClosedMarkup f → IsClosedMarkup (joined f)
joined_sound none s = tt
joined_sound (text x f) s = text_before_sound x (joined f) s.0 (joined_sound f s.1)
joined_sound (gap g f) s = absurd s.0
joined_sound (element tag attrs inner f) s = (s.0, s.1, s.2, λ (h : is_void tag ≡ true). ap joined (s.3 h), joined_sound inner s.4, joined_sound f s.5)

text_before_tidy : (x : List ℕ) (f : Forest) → Tidy f → Tidy (text_before x f)
text_before_tidy [] f t = t
text_before_tidy (b ∷ x) none t = (λ (h : b ∷ x ≡ []). cc, refl, tt)
text_before_tidy (b ∷ x) (text y f) t = (λ (h : b ∷ (x ++ y) ≡ []). cc, t.1, t.2)
text_before_tidy (b ∷ x) (gap g f) t = (λ (h : b ∷ x ≡ []). cc, refl, t)
text_before_tidy (b ∷ x) (element tag attrs inner f) t = (λ (h : b ∷ x ≡ []). cc, refl, t)

pub joined_tidy : (f : Forest) → Tidy (joined f)
joined_tidy none = tt
joined_tidy (text x f) = text_before_tidy x (joined f) (joined_tidy f)
joined_tidy (gap g f) = joined_tidy f
joined_tidy (element tag attrs inner f) = (joined_tidy inner, joined_tidy f)

text_before_nest : (x : List ℕ) (f : Forest) → nest (text_before x f) ≡ nest f
text_before_nest [] f = refl
text_before_nest (b ∷ x) none = refl
text_before_nest (b ∷ x) (text y f) = refl
text_before_nest (b ∷ x) (gap g f) = refl
text_before_nest (b ∷ x) (element tag attrs inner f) = refl

joined_nest : (f : Forest) → nest (joined f) ≡ nest f
joined_nest none = refl
joined_nest (text x f) = text_before_nest x (joined f) ∙ joined_nest f
joined_nest (gap g f) = joined_nest f
joined_nest (element tag attrs inner f) = λ i. max (suc (joined_nest inner i)) (joined_nest f i)

-- ---- read back

pub reads_back : ReadsBack
reads_back f most s le =
    let g = joined f in
    let sg = joined_sound f s in
    let p : Each IsPiece (written g) (print g) [] =
    subst (λ (l : List ℕ). Each IsPiece (written g) l []) (append-nil (print g)) (prints g sg (joined_tidy f) []) in
    let q : Each IsPiece (written g) (print f) [] = subst (λ (l : List ℕ). Each IsPiece (written g) l []) (joined_alike f) p in
    let r : ReadsPieces [] g (written g) [] = subst (λ (l : List Piece). ReadsPieces [] g l []) (append-nil (written g)) (reads_written g sg []) in
    let spelled : SpellsPieces (written g) (print f) = record { apart = apart_written g sg (joined_tidy f); pieces = q } in
    let n : nest g ≤ most = subst (λ (k : ℕ). k ≤ most) (sym (joined_nest f)) le in
    record { pieces = written g; spelled = record { spells = spelled; closed = written_gapless g sg }; once = repeats_written g sg; reads = r; nested = n }
