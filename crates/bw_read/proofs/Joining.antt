-- Joining texts.
use Rattle.std.proofs.Common.{◌≡◌, ℕ, suc, ◌+◌, false, inl, inr, List, [], ◌∷◌, ◌++◌, refl, sym, ap, subst, ◌∙◌}
use Rattle.bw_lang.specs.declared.pieces.Piece.{Piece}
use Rattle.bw_lang.specs.declared.pieces.Piece.TheVariants as piece
use Rattle.bw_lang.specs.declared.pieces.Tag.{Tag}
use Rattle.bw_lang.specs.Template.Controls.{fields, field_of}
use Rattle.bw_lang.specs.Document.Forest.{Forest, none, text, gap, element}
use Rattle.bw_lang.specs.Template.PieceItems.{ReadsPieces}
use Rattle.bw_lang.specs.Template.Pieces.{Each, IsPiece, begins_with_text, Apart, SpellsPieces}
use Rattle.bw_lang.specs.Document.Print.{text_before, joined}
use Rattle.bw_lang.proofs.Counts.{text_elements}
use Rattle.bw_tmpl.proofs.Back.{joined_tidy}
use Rattle.bw_tmpl.proofs.BackPieces.{starts_text, Tidy}
use Rattle.bw_tmpl.proofs.GapLaws.{Ways}
use Rattle.bw_read.specs.Laws.{JoinsOnce, JoinsNoField, JoinsNoElement}
use Rattle.bw_read.proofs.Behind.{reads_front}

-- ---- what joining keeps

text_fields : (s : List ℕ) (d : Forest) → fields (text_before s d) ≡ fields d
text_fields [] d = refl
text_fields (b ∷ s) none = refl
text_fields (b ∷ s) (text t d) = refl
text_fields (b ∷ s) (gap g d) = refl
text_fields (b ∷ s) (element tag attrs inner d) = refl

pub joins_no_field : JoinsNoField
joins_no_field none = refl
joins_no_field (text s d) = text_fields s (joined d) ∙ joins_no_field d
joins_no_field (gap g d) = joins_no_field d
joins_no_field (element tag attrs inner d) =
    let own = field_of tag attrs in
    (λ i. own ++ (joins_no_field inner i ++ joins_no_field d i))

pub joins_no_element : JoinsNoElement
joins_no_element none = refl
joins_no_element (text s d) = text_elements s (joined d) ∙ joins_no_element d
joins_no_element (gap g d) = joins_no_element d
joins_no_element (element tag attrs inner d) = λ i. suc (joins_no_element inner i + joins_no_element d i)

-- ---- what is joined already

text_alone : (s : List ℕ) (d : Forest) → (s ≡ [] → ⊥) → starts_text d ≡ false → text_before s d ≡ text s d
text_alone [] d h e = absurd (h refl)
text_alone (b ∷ s) none h e = refl
text_alone (b ∷ s) (text t d) h e = absurd (cc)
text_alone (b ∷ s) (gap g d) h e = refl
text_alone (b ∷ s) (element tag attrs inner d) h e = refl

pub tidy_stays : (d : Forest) → Tidy d → joined d ≡ d
tidy_stays none h = refl
tidy_stays (text s d) h = ap (text_before s) (tidy_stays d h.2) ∙ text_alone s d h.0 h.1
tidy_stays (gap g d) h = ap (gap g) (tidy_stays d h)
tidy_stays (element tag attrs inner d) h = λ i. element tag attrs (tidy_stays inner h.0 i) (tidy_stays d h.1 i)

pub joins_once : JoinsOnce
joins_once d = tidy_stays (joined d) (joined_tidy d)

-- ---- what is read is joined

-- no text among the pieces is empty
abbrev pub Full : List Piece → Type 0
Full [] = Unit {0}
Full (piece.Text s ∷ ps) = (s ≡ [] → ⊥) × Full ps
Full (piece.Gap n ∷ ps) = Full ps
Full (piece.Start t ∷ ps) = Full ps
Full (piece.Whole t ∷ ps) = Full ps
Full (piece.End n ∷ ps) = Full ps

pub full : (ps : List Piece) (bytes rest : List ℕ) → Each IsPiece ps bytes rest → Full ps
full [] bytes rest h = tt
full (piece.Text s ∷ ps) bytes rest h = (h.1.0, full ps h.0 rest h.2)
full (piece.Gap n ∷ ps) bytes rest h = full ps h.0 rest h.2
full (piece.Start t ∷ ps) bytes rest h = full ps h.0 rest h.2
full (piece.Whole t ∷ ps) bytes rest h = full ps h.0 rest h.2
full (piece.End n ∷ ps) bytes rest h = full ps h.0 rest h.2

-- pieces whose texts are apart and not empty
pub record Neat (ps : List Piece) : Type 0 where
  pub apart : Apart ps
  pub full : Full ps

full_behind : (ps qs : List Piece) → Full (ps ++ qs) → Full qs
full_behind [] qs h = h
full_behind (piece.Text s ∷ ps) qs h = full_behind ps qs h.1
full_behind (piece.Gap n ∷ ps) qs h = full_behind ps qs h
full_behind (piece.Start t ∷ ps) qs h = full_behind ps qs h
full_behind (piece.Whole t ∷ ps) qs h = full_behind ps qs h
full_behind (piece.End n ∷ ps) qs h = full_behind ps qs h

apart_behind : (ps qs : List Piece) → Apart (ps ++ qs) → Apart qs
apart_behind [] qs h = h
apart_behind (p ∷ ps) qs h = apart_behind ps qs h.1

neat_behind : (front qs ps : List Piece) → ps ≡ front ++ qs → Neat ps → Neat qs
neat_behind front qs ps e h = record { apart = apart_behind front qs (subst Apart e h.apart); full = full_behind front qs (subst Full e h.full) }

text_first : (names : List (List ℕ)) (f : Forest) (ps rest : List Piece) → ReadsPieces names f ps rest → begins_with_text ps ≡ false → starts_text f ≡ false
text_first names none ps rest h e = refl
text_first names (text s f) ps rest h e = let k = ap begins_with_text h.1 in absurd (cc)
text_first names (gap g f) ps rest h e = refl
text_first names (element tag attrs inner f) ps rest h e = refl

inner_tidy : (names : List (List ℕ)) (inner : Forest) (t : Tag) (ps qs : List Piece) → Ways names inner t ps qs → Neat ps
    → ((xs ys : List Piece) → ReadsPieces names inner xs ys → Neat xs → Tidy inner) → Tidy inner
inner_tidy names inner t ps qs (inl w) h ih = subst Tidy (sym w.1) tt
inner_tidy names inner t ps qs (inr (inl w)) h ih = subst Tidy (sym w.2) tt
inner_tidy names inner t ps qs (inr (inr w)) h ih = ih w.0 (piece.End t.name ∷ qs) w.3 (neat_behind (piece.Start t ∷ []) w.0 ps w.1 h)

rest_neat : (names : List (List ℕ)) (inner : Forest) (t : Tag) (ps qs : List Piece) → Ways names inner t ps qs → Neat ps → Neat qs
rest_neat names inner t ps qs (inl w) h = neat_behind (piece.Whole t ∷ []) qs ps w.0 h
rest_neat names inner t ps qs (inr (inl w)) h = neat_behind (piece.Start t ∷ []) qs ps w.0 h
rest_neat names inner t ps qs (inr (inr w)) h =
    let f = reads_front names inner w.0 (piece.End t.name ∷ qs) w.3 in
    let mid = neat_behind (piece.Start t ∷ []) w.0 ps w.1 h in
    neat_behind (piece.End t.name ∷ []) qs (piece.End t.name ∷ qs) refl (neat_behind f.front (piece.End t.name ∷ qs) w.0 f.parts mid)

pub reads_tidy : (names : List (List ℕ)) (f : Forest) (ps rest : List Piece) → ReadsPieces names f ps rest → Neat ps → Tidy f
reads_tidy names none ps rest h n = tt
reads_tidy names (text s f) ps rest h n =
    let m : Neat (piece.Text s ∷ h.0) = subst Neat h.1 n in
    (m.full.0, text_first names f h.0 rest h.2 m.apart.0, reads_tidy names f h.0 rest h.2 (neat_behind (piece.Text s ∷ []) h.0 ps h.1 n))
reads_tidy names (gap g f) ps rest h n = reads_tidy names f h.0 rest h.2 (neat_behind (piece.Gap h.1.0 ∷ []) h.0 ps h.1.1 n)
reads_tidy names (element tag attrs inner f) ps rest h n = (
  inner_tidy names inner h.1.0 ps h.0 h.1.3 n (reads_tidy names inner),
  reads_tidy names f h.0 rest h.2 (rest_neat names inner h.1.0 ps h.0 h.1.3 n),
)

-- items that pieces read as have their texts joined
pub read_is_joined : (names : List (List ℕ)) (f : Forest) (ps : List Piece) (bytes : List ℕ) → SpellsPieces ps bytes → ReadsPieces names f ps [] → joined f ≡ f
read_is_joined names f ps bytes s r = tidy_stays f (reads_tidy names f ps [] r (record { apart = s.apart; full = full ps bytes [] s.pieces }))
