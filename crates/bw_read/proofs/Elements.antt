-- What stands around a page's element is cut off, and nothing of the element.
use Rattle.std.proofs.Common.{◌≡◌, ℕ, inl, inr, List, [], ◌∷◌, ◌++◌, refl, sym, ap, subst, ◌∙◌, None}
use Rattle.std.specs.Prelude.{codes, false}
use Rattle.std.proofs.lemmas.List.{append_assoc}
use Rattle.bw_lang.specs.declared.pieces.Piece.{Piece}
use Rattle.bw_lang.specs.declared.pieces.Piece.TheVariants as piece
use Rattle.bw_lang.specs.declared.pieces.Tag.{Tag}
use Rattle.bw_lang.specs.Text.Bytes.{is_blank}
use Rattle.bw_lang.specs.Document.Forest.{Forest, none, element}
use Rattle.bw_lang.specs.Template.MarkupNames.{begins}
use Rattle.bw_lang.specs.Template.PieceItems.{ReadsPieces}
use Rattle.bw_lang.specs.Template.Pieces.{Each, IsTag, IsPiece}
use Rattle.bw_lang.specs.Template.Templates.{IsClosedTemplate}
use Rattle.bw_tmpl.specs.Steps.Reading.{past_blanks, stripped}
use Rattle.bw_tmpl.proofs.GapLaws.{Ways}
use Rattle.bw_tmpl.proofs.SpelledNames.{past_is}
use Rattle.bw_read.specs.Element.{past_doctype, trimmed, element_of}
use Rattle.bw_read.specs.Pages.{IsRoot, AreBlanks, IsDoctype, IsPage}
use Rattle.bw_read.proofs.Behind.{EndsWith, ends_trans, each_ends, piece_ends, last_start, last_whole, last_end, each_split, Fronts, reads_front}
use Rattle.bw_read.proofs.Blanks.{trimmed_parts, trimmed_is, past_blanks_parts, past_doctype_parts, past_doctype_is, doctype_begins}

-- ---- what is cut off may stand around a page

pub record Around (bytes inside : List ℕ) : Type 0 where
  pub front : List ℕ
  pub front_blank : AreBlanks front
  pub doctype : List ℕ
  pub doctype_or_none : IsDoctype doctype
  pub back : List ℕ
  pub back_blank : AreBlanks back
  pub parts : bytes ≡ front ++ (doctype ++ (inside ++ back))

pub around_element : (bytes : List ℕ) → Around bytes (element_of bytes)
around_element bytes =
    let p = past_blanks_parts bytes in
    let d = past_doctype_parts (past_blanks bytes) in
    let t = trimmed_parts (past_doctype (past_blanks bytes)) in
    record {
      front = p.front;
      front_blank = p.are;
      doctype = d.doctype;
      doctype_or_none = d.is;
      back = t.blanks;
      back_blank = t.are;
      parts = p.parts ∙ ap (λ (l : List ℕ). p.front ++ l) (d.parts ∙ ap (λ (l : List ℕ). d.doctype ++ l) t.parts);
    }

-- ---- an element html begins with `<h` and ends with `>`

pub record IsTagged (bytes : List ℕ) : Type 0 where
  pub behind : List ℕ
  pub begins : bytes ≡ 60 ∷ 104 ∷ behind
  pub ends : EndsWith (62 ∷ []) bytes

-- the bytes of a tag html, in front of which `<` stands
tag_begins : (t : Tag) (bytes m rest : List ℕ) → codes "html" ≡ t.name → bytes ≡ 60 ∷ m → IsTag t m rest → (b : List ℕ) × (bytes ≡ 60 ∷ 104 ∷ b)
tag_begins t bytes m rest e p h =
    let n : m ≡ codes "html" ++ h.behind = h.parts ∙ ap (λ (l : List ℕ). l ++ h.behind) (sym e) in
    (codes "tml" ++ h.behind, p ∙ ap (λ (l : List ℕ). 60 ∷ l) n)

-- of pieces that are all, the last is an end tag
end_last : (n : List ℕ) (mid : List Piece) (bytes : List ℕ) → Fronts mid (piece.End n ∷ []) → Each IsPiece mid bytes [] → EndsWith (62 ∷ []) bytes
end_last n mid bytes f h =
    let s = each_split IsPiece f.front (piece.End n ∷ []) bytes [] (subst (λ (l : List Piece). Each IsPiece l bytes []) f.parts h) in
    let e : IsPiece (piece.End n) s.mid [] = subst (λ (l : List ℕ). IsPiece (piece.End n) s.mid l) s.second.2 s.second.1 in
    ends_trans (62 ∷ []) s.mid bytes (last_end n s.mid e) (each_ends IsPiece piece_ends f.front bytes s.mid s.first)

tagged : (inner : Forest) (t : Tag) (ps : List Piece) (bytes : List ℕ) → codes "html" ≡ t.name → Ways [] inner t ps [] → Each IsPiece ps bytes []
    → IsTagged bytes
tagged inner t ps bytes e (inl w) h =
    let k : Each IsPiece (piece.Whole t ∷ []) bytes [] = subst (λ (l : List Piece). Each IsPiece l bytes []) w.0 h in
    let p : IsPiece (piece.Whole t) bytes [] = subst (λ (l : List ℕ). IsPiece (piece.Whole t) bytes l) k.2 k.1 in
    let b = tag_begins t bytes p.0 (codes "/>" ++ []) e p.1 p.2 in record { behind = b.0; begins = b.1; ends = last_whole t bytes p }
tagged inner t ps bytes e (inr (inl w)) h =
    let k : Each IsPiece (piece.Start t ∷ []) bytes [] = subst (λ (l : List Piece). Each IsPiece l bytes []) w.0 h in
    let p : IsPiece (piece.Start t) bytes [] = subst (λ (l : List ℕ). IsPiece (piece.Start t) bytes l) k.2 k.1 in
    let b = tag_begins t bytes p.0 (codes ">" ++ []) e p.1 p.2 in record { behind = b.0; begins = b.1; ends = last_start t bytes p }
tagged inner t ps bytes e (inr (inr w)) h =
    let k : Each IsPiece (piece.Start t ∷ w.0) bytes [] = subst (λ (l : List Piece). Each IsPiece l bytes []) w.1 h in
    let b = tag_begins t bytes k.1.0 (codes ">" ++ k.0) e k.1.1 k.1.2 in
    let f = reads_front [] inner w.0 (piece.End t.name ∷ []) w.3 in
    record {
      behind = b.0;
      begins = b.1;
      ends = ends_trans (62 ∷ []) k.0 bytes (end_last t.name w.0 k.0 f k.2) (piece_ends (piece.Start t) bytes k.0 k.1);
    }

pub root_tagged : (most : ℕ) (bytes : List ℕ) (f : Forest) → IsClosedTemplate most bytes f → IsRoot f → IsTagged bytes
root_tagged most bytes f h r =
    let k : ReadsPieces [] (element (codes "html") r.0 r.1 none) h.pieces [] = subst (λ (g : Forest). ReadsPieces [] g h.pieces []) r.2 h.reads in
    let w : Ways [] r.1 k.1.0 h.pieces [] = subst (λ (qs : List Piece). Ways [] r.1 k.1.0 h.pieces qs) k.2 k.1.3 in
    tagged r.1 k.1.0 h.pieces bytes k.1.1 w h.spelled.spells.pieces

-- ---- so it is what is left

not_blank : (inside rest : List ℕ) → IsTagged inside → begins is_blank (inside ++ rest) ≡ false
not_blank inside rest h = ap (λ (l : List ℕ). begins is_blank (l ++ rest)) h.begins

no_doctype : (inside rest : List ℕ) → IsTagged inside → stripped (codes "<!DOCTYPE html>") (inside ++ rest) ≡ None
no_doctype inside rest h = ap (λ (l : List ℕ). stripped (codes "<!DOCTYPE html>") (l ++ rest)) h.begins

tagged_left : (inside back : List ℕ) → IsTagged inside → AreBlanks back → trimmed (inside ++ back) ≡ inside
tagged_left inside back h b =
    let e = h.ends.parts in
    ap (λ (l : List ℕ). trimmed (l ++ back)) e ∙ ap trimmed (append_assoc h.ends.front (62 ∷ []) back)
    ∙ trimmed_is h.ends.front 62 back refl b ∙ sym e

pub element_is : (bytes inside : List ℕ) → IsTagged inside → Around bytes inside → element_of bytes ≡ inside
element_is bytes inside h a =
    let rest = inside ++ a.back in
    let n = not_blank inside a.back h in
    ap element_of a.parts
    ∙ ap (λ (l : List ℕ). trimmed (past_doctype l)) (past_is a.front (a.doctype ++ rest) a.front_blank (doctype_begins a.doctype rest a.doctype_or_none n))
    ∙ ap trimmed (past_doctype_is a.doctype rest a.doctype_or_none n (no_doctype inside a.back h)) ∙ tagged_left inside a.back h a.back_blank

-- the element of a page is what is left of it
pub page_element : (bytes : List ℕ) (f : Forest) (p : IsPage bytes f) → element_of bytes ≡ p.inside
page_element bytes f p =
    element_is bytes p.inside (root_tagged 512 p.inside f p.reads p.root)
    (record {
      front = p.front;
      front_blank = p.front_blank;
      doctype = p.doctype;
      doctype_or_none = p.doctype_or_none;
      back = p.back;
      back_blank = p.back_blank;
      parts = p.parts;
    })
