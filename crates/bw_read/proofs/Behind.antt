-- What stands behind pieces is the end of the bytes in which they stand.
use Rattle.std.proofs.Common.{◌≡◌, ℕ, inl, inr, List, [], ◌∷◌, ◌++◌, refl, sym, ap, ◌∙◌}
use Rattle.std.specs.Prelude.{codes}
use Rattle.std.proofs.lemmas.List.{append_assoc}
use Rattle.bw_lang.specs.Document.Forest.{Forest, none, text, gap, element}
use Rattle.bw_lang.specs.Template.PieceItems.{ReadsPieces}
use Rattle.bw_lang.specs.Template.Pieces.{IsChar, Each, IsValue, IsAttr, IsTag, IsPiece}
use Rattle.bw_lang.specs.Template.MarkupBytes.{less_than}
use Rattle.bw_lang.specs.declared.pieces.Piece.{Piece}
use Rattle.bw_lang.specs.declared.pieces.Piece.TheVariants as piece
use Rattle.bw_lang.specs.declared.pieces.RawAttr.{RawAttr}
use Rattle.bw_lang.specs.declared.pieces.RawValue.{RawValue}
use Rattle.bw_lang.specs.declared.pieces.RawValue.TheVariants as raw
use Rattle.bw_lang.specs.declared.pieces.Tag.{Tag}
use Rattle.bw_tmpl.proofs.GapLaws.{Ways}

-- the bytes end with rest
pub record EndsWith (rest bytes : List ℕ) : Type 0 where
  pub front : List ℕ
  pub parts : bytes ≡ front ++ rest

pub ends-refl : (rest : List ℕ) → EndsWith rest rest
ends-refl rest = record { front = []; parts = refl }

pub ends_behind : (rest bytes front behind : List ℕ) → bytes ≡ front ++ behind → EndsWith rest behind → EndsWith rest bytes
ends_behind rest bytes front behind e h =
    record { front = front ++ h.front; parts = e ∙ ap (λ (l : List ℕ). front ++ l) h.parts ∙ sym (append_assoc front h.front rest) }

pub ends_trans : (rest mid bytes : List ℕ) → EndsWith rest mid → EndsWith mid bytes → EndsWith rest bytes
ends_trans rest mid bytes p q = ends_behind rest bytes q.front mid q.parts p

-- the same without a first byte
ends_past : (c : ℕ) (rest bytes : List ℕ) → EndsWith (c ∷ rest) bytes → EndsWith rest bytes
ends_past c rest bytes h = record { front = h.front ++ c ∷ []; parts = h.parts ∙ sym (append_assoc h.front (c ∷ []) rest) }

pub each_ends : {A : Type 0} (R : A → List ℕ → List ℕ → Type 0) → ((x : A) (b r : List ℕ) → R x b r → EndsWith r b)
    → (xs : List A) (bytes rest : List ℕ) → Each R xs bytes rest → EndsWith rest bytes
each_ends R one [] bytes rest h = record { front = []; parts = h }
each_ends R one (x ∷ xs) bytes rest h = ends_trans rest h.0 bytes (each_ends R one xs h.0 rest h.2) (one x bytes h.0 h.1)

char_ends : (stop c : ℕ) (bytes rest : List ℕ) → IsChar stop c bytes rest → EndsWith rest bytes
char_ends stop c bytes rest (inl h) = record { front = c ∷ []; parts = h.0 }
char_ends stop c bytes rest (inr h) = record { front = h.0; parts = h.2 }

chars_end : (stop : ℕ) (s bytes rest : List ℕ) → Each (IsChar stop) s bytes rest → EndsWith rest bytes
chars_end stop s bytes rest h = each_ends (IsChar stop) (char_ends stop) s bytes rest h

value_ends : (v : RawValue) (bytes rest : List ℕ) → IsValue v bytes rest → EndsWith rest bytes
value_ends (raw.Fixed v) bytes rest h =
    ends_behind rest bytes (h.0 ∷ []) h.2 h.3 (ends_past h.0 rest h.2 (chars_end h.0 v h.2 (h.0 ∷ rest) h.4))
value_ends (raw.Hole n) bytes rest h = record { front = 91 ∷ (n ++ 93 ∷ []); parts = h.1 ∙ ap (λ (l : List ℕ). 91 ∷ l) (sym (append_assoc n (93 ∷ []) rest)) }

attr_ends : (a : RawAttr) (bytes rest : List ℕ) → IsAttr a bytes rest → EndsWith rest bytes
attr_ends a bytes rest h =
    let v = value_ends a.value h.behind rest h.value in
    let named = ends_behind rest (a.name ++ 61 ∷ h.behind) a.name (61 ∷ h.behind) refl (ends_behind rest (61 ∷ h.behind) (61 ∷ []) h.behind refl v) in
    ends_behind rest bytes h.blanks (a.name ++ 61 ∷ h.behind) h.parts named

tag_ends : (t : Tag) (bytes rest : List ℕ) → IsTag t bytes rest → EndsWith rest bytes
tag_ends t bytes rest h =
    let blanks : EndsWith rest h.after_attrs = record { front = h.blanks; parts = h.end } in
    let attrs = each_ends IsAttr attr_ends t.attrs h.behind h.after_attrs h.attrs in
    ends_behind rest bytes t.name h.behind h.parts (ends_trans rest h.after_attrs h.behind blanks attrs)

start_ends : (t : Tag) (bytes m rest : List ℕ) → bytes ≡ less_than ∷ m → IsTag t m rest → EndsWith rest bytes
start_ends t bytes m rest e h = ends_behind rest bytes (less_than ∷ []) m e (tag_ends t m rest h)

-- an end tag: what stands behind it is the end, with its last byte in front
end_ends : (n : List ℕ) (bytes rest : List ℕ) → IsPiece (piece.End n) bytes rest → EndsWith (62 ∷ rest) bytes
end_ends n bytes rest h =
    let blanks = ends_behind (62 ∷ rest) (h.1 ++ 62 ∷ rest) h.1 (62 ∷ rest) refl (ends-refl (62 ∷ rest)) in
    let name = ends_behind (62 ∷ rest) (n ++ (h.1 ++ 62 ∷ rest)) n (h.1 ++ 62 ∷ rest) refl blanks in
    ends_behind (62 ∷ rest) bytes (codes "</") (n ++ (h.1 ++ 62 ∷ rest)) h.3 name

pub piece_ends : (p : Piece) (bytes rest : List ℕ) → IsPiece p bytes rest → EndsWith rest bytes
piece_ends (piece.Text s) bytes rest h = chars_end less_than s bytes rest h.2
piece_ends (piece.Gap n) bytes rest h =
    let close = ends_behind rest (codes "]>" ++ rest) (codes "]>") rest refl (ends-refl rest) in
    let name = ends_behind rest (n ++ (codes "]>" ++ rest)) n (codes "]>" ++ rest) refl close in
    ends_behind rest bytes (codes "<[") (n ++ (codes "]>" ++ rest)) h.1 name
piece_ends (piece.Start t) bytes rest h = ends_past 62 rest bytes (start_ends t bytes h.0 (62 ∷ rest) h.1 h.2)
piece_ends (piece.Whole t) bytes rest h = ends_past 62 rest bytes (ends_past 47 (62 ∷ rest) bytes (start_ends t bytes h.0 (47 ∷ 62 ∷ rest) h.1 h.2))
piece_ends (piece.End n) bytes rest h = ends_past 62 rest bytes (end_ends n bytes rest h)

-- a tag that is the last piece ends with `>`
pub last_start : (t : Tag) (bytes : List ℕ) → IsPiece (piece.Start t) bytes [] → EndsWith (62 ∷ []) bytes
last_start t bytes h = start_ends t bytes h.0 (62 ∷ []) h.1 h.2

pub last_whole : (t : Tag) (bytes : List ℕ) → IsPiece (piece.Whole t) bytes [] → EndsWith (62 ∷ []) bytes
last_whole t bytes h = ends_past 47 (62 ∷ []) bytes (start_ends t bytes h.0 (47 ∷ 62 ∷ []) h.1 h.2)

pub last_end : (n : List ℕ) (bytes : List ℕ) → IsPiece (piece.End n) bytes [] → EndsWith (62 ∷ []) bytes
last_end n bytes h = end_ends n bytes [] h

-- ---- lists of pieces

pub record Split {A : Type 0} (R : A → List ℕ → List ℕ → Type 0) (xs ys : List A) (bytes rest : List ℕ) : Type 0 where
  pub mid : List ℕ
  pub first : Each R xs bytes mid
  pub second : Each R ys mid rest

pub each_split : {A : Type 0} (R : A → List ℕ → List ℕ → Type 0) (xs ys : List A) (bytes rest : List ℕ) → Each R (xs ++ ys) bytes rest
    → Split R xs ys bytes rest
each_split R [] ys bytes rest h = record { mid = bytes; first = refl; second = h }
each_split R (x ∷ xs) ys bytes rest h =
    let s = each_split R xs ys h.0 rest h.2 in record { mid = s.mid; first = (h.0, h.1, s.first); second = s.second }

-- the pieces of items stand in front of the rest
pub record Fronts (ps rest : List Piece) : Type 0 where
  pub front : List Piece
  pub parts : ps ≡ front ++ rest

more : (ps front qs rest : List Piece) → ps ≡ front ++ qs → Fronts qs rest → Fronts ps rest
more ps front qs rest e h =
    record { front = front ++ h.front; parts = e ∙ ap (λ (l : List Piece). front ++ l) h.parts ∙ sym (append_assoc front h.front rest) }

-- an element's pieces, in front of those of what follows
element_front : (names : List (List ℕ)) (inner : Forest) (ps qs rest : List Piece) (t : Tag) → Ways names inner t ps qs
    → ((xs ys : List Piece) → ReadsPieces names inner xs ys → Fronts xs ys) → Fronts qs rest → Fronts ps rest
element_front names inner ps qs rest t (inl w) ih h = more ps (piece.Whole t ∷ []) qs rest w.0 h
element_front names inner ps qs rest t (inr (inl w)) ih h = more ps (piece.Start t ∷ []) qs rest w.0 h
element_front names inner ps qs rest t (inr (inr w)) ih h =
    let last = more (piece.End t.name ∷ qs) (piece.End t.name ∷ []) qs rest refl h in
    let items = ih w.0 (piece.End t.name ∷ qs) w.3 in
    more ps (piece.Start t ∷ []) w.0 rest w.1 (more w.0 items.front (piece.End t.name ∷ qs) rest items.parts last)

pub reads_front : (names : List (List ℕ)) (f : Forest) (ps rest : List Piece) → ReadsPieces names f ps rest → Fronts ps rest
reads_front names none ps rest h = record { front = []; parts = h }
reads_front names (text s f) ps rest h = more ps (piece.Text s ∷ []) h.0 rest h.1 (reads_front names f h.0 rest h.2)
reads_front names (gap g f) ps rest h = more ps (piece.Gap h.1.0 ∷ []) h.0 rest h.1.1 (reads_front names f h.0 rest h.2)
reads_front names (element tag attrs inner f) ps rest h =
    element_front names inner ps h.0 rest h.1.0 h.1.3 (reads_front names inner) (reads_front names f h.0 rest h.2)
