-- The pieces that bytes are spelled with are read.
use Rattle.std.proofs.Common.{◌≡◌, ◌≢◌, ℕ, ◌<◌, Bool, true, false, List, [], ◌∷◌, ◌++◌, length, Option, Some, None, refl}
use Rattle.std.proofs.Common.{sym, ap, ◌∙◌, arith, ◌⊎◌, inl, inr, lit<}
use Rattle.std.specs.Prelude.{if◌then◌else◌, ◌==◌, ◌&&◌, codes, nat_eq, IsUtf8}
use Rattle.std.proofs.lemmas.Bool.{eqb-true}
use Rattle.std.proofs.lemmas.Bool.Decides.{nat_tests}
use Rattle.bw_lang.specs.declared.pieces.NameClass.TheVariants as class
use Rattle.bw_lang.specs.declared.pieces.Tag.{Tag}
use Rattle.bw_lang.specs.declared.pieces.Piece.{Piece}
use Rattle.bw_lang.specs.declared.pieces.Piece.TheVariants as piece
use Rattle.std.specs.Char.{is_ascii_lowercase}
use Rattle.bw_lang.specs.Table.Options.{◌>>=◌, where_some}
use Rattle.bw_tmpl.specs.Steps.Reading.{stripped, past_blanks, char_at, many, each, checked}
use Rattle.bw_tmpl.specs.Steps.Reading.{whole_at, end_at, gap_at, text_at, piece_at, pieces_of}
use Rattle.bw_lang.specs.Text.Bytes.{is_blank}
use Rattle.bw_lang.specs.Template.MarkupNames.{begins}
use Rattle.bw_lang.specs.Template.Pieces.{passes, IsNameOf, IsChar, Each, IsTag, IsPiece, is_text, begins_with_text, Apart, SpellsPieces}
use Rattle.bw_lang.proofs.Options.{none_some, some_is}
use Rattle.bw_tmpl.proofs.Many.{put, each_more, each_none}
use Rattle.bw_tmpl.proofs.Characters.{char_written}
use Rattle.bw_tmpl.proofs.Shrinking.{piece_shrinks}
use Rattle.bw_tmpl.proofs.Runs.{checked_ok}
use Rattle.bw_tmpl.proofs.SpelledNames.{past_is, name_written}
use Rattle.bw_tmpl.proofs.SpelledValues.{chars_written}
use Rattle.bw_tmpl.proofs.SpelledTags.{Ends, blanks_end, tag_written}

-- ---- what is spelled so is read

close_ends : (rest : List ℕ) → Ends (codes ">" ++ rest)
close_ends rest = record { no_blank = refl; no_name = refl; no_later = refl }

slash_ends : (rest : List ℕ) → Ends (codes "/>" ++ rest)
slash_ends rest = record { no_blank = refl; no_name = refl; no_later = refl }

abbrev closing : Tag → List ℕ → Option (Piece × List ℕ)
closing t l =
    where_some (stripped (codes "/>") l) (λ rest. Some (piece.Whole t, rest)) (where_some (stripped (codes ">") l) (λ rest. Some (piece.Start t, rest)) None)

no_slash : (t : Tag) (rest : List ℕ) → closing t (62 ∷ rest) ≡ Some (piece.Start t, rest)
no_slash t [] = refl
no_slash t (b ∷ bs) = refl

start_written : (t : Tag) (m rest : List ℕ) → IsTag t m (codes ">" ++ rest) → whole_at m ≡ Some (piece.Start t, rest)
unfolding whole_at
start_written t m rest h =
    ap (λ (o : Option (Tag × List ℕ)). o >>= λ t. closing t.0 t.1) (tag_written t m (codes ">" ++ rest) h (close_ends rest)) ∙ no_slash t rest

whole_written : (t : Tag) (m rest : List ℕ) → IsTag t m (codes "/>" ++ rest) → whole_at m ≡ Some (piece.Whole t, rest)
unfolding whole_at
whole_written t m rest h = ap (λ (o : Option (Tag × List ℕ)). o >>= λ t. closing t.0 t.1) (tag_written t m (codes "/>" ++ rest) h (slash_ends rest))

small_other : (c d : ℕ) → is_ascii_lowercase c ≡ true → d < 97 → nat_eq c d ≡ false
small_other c d h lt = grind (arith, nat_tests)

-- behind < a small letter stands
tag_dispatch : (c : ℕ) (m : List ℕ) → is_ascii_lowercase c ≡ true → piece_at (60 ∷ (c ∷ m)) ≡ whole_at (c ∷ m)
unfolding piece_at
tag_dispatch c m h = rw (small_other c 91 h (lit< tt), small_other c 47 h (lit< tt)) refl

tag_behind : (n m : List ℕ) → begins is_ascii_lowercase n ≡ true → piece_at (60 ∷ (n ++ m)) ≡ whole_at (n ++ m)
tag_behind [] m h = absurd (cc)
tag_behind (c ∷ n) m h = tag_dispatch c (n ++ m) h

tag_piece : (t : Tag) (m rest : List ℕ) → IsTag t m rest → piece_at (60 ∷ m) ≡ whole_at m
tag_piece t m rest h = ap (λ (l : List ℕ). piece_at (60 ∷ l)) h.parts ∙ tag_behind t.name h.behind h.name.first ∙ ap whole_at (sym h.parts)

end_written : (n w rest : List ℕ) → IsNameOf class.Tag n → passes is_blank w ≡ true → end_at (n ++ (w ++ (codes ">" ++ rest))) ≡ Some (piece.End n, rest)
unfolding end_at
end_written n w rest h p =
    ap (λ (o : Option (List ℕ × List ℕ)). o >>= λ n. stripped (codes ">") (past_blanks n.1) >>= λ rest. Some (piece.End n.0, rest))
    (name_written class.Tag n (w ++ (codes ">" ++ rest)) h (blanks_end w (codes ">" ++ rest) p (close_ends rest)))
    ∙ ap (λ (l : List ℕ). stripped (codes ">") l >>= λ rest. Some (piece.End n, rest)) (past_is w (codes ">" ++ rest) p refl)

end_dispatch : (m : List ℕ) → piece_at (codes "</" ++ m) ≡ end_at m
unfolding piece_at
end_dispatch m = refl

gap_dispatch : (m : List ℕ) → piece_at (codes "<[" ++ m) ≡ gap_at m
unfolding piece_at
gap_dispatch m = refl

gap_written : (n rest : List ℕ) → IsNameOf class.Word n → gap_at (n ++ (codes "]>" ++ rest)) ≡ Some (piece.Gap n, rest)
unfolding gap_at
gap_written n rest h =
    ap (λ (o : Option (List ℕ × List ℕ)). o >>= λ n. stripped (codes "]>") n.1 >>= λ rest. Some (piece.Gap n.0, rest))
    (name_written class.Word n (codes "]>" ++ rest) h refl)

-- where a character stands no < does
no_bracket : (front b : ℕ) (fs bs : List ℕ) (v : Bool) → nat_eq b front ≡ v → (v ≡ true → ⊥) → stripped (front ∷ fs) (b ∷ bs) ≡ None
no_bracket front b fs bs true e h = absurd (h refl)
no_bracket front b fs bs false e h = rw e refl

char_bracket : (c : ℕ) (bytes rest : List ℕ) (fs : List ℕ) → IsChar 60 c bytes rest → stripped (60 ∷ fs) bytes ≡ None
char_bracket c bytes rest fs h =
    let e = char_written 60 c bytes rest h in by_head bytes e
  where
    not_open : (b : ℕ) (bs : List ℕ) → char_at 60 (b ∷ bs) ≡ Some (c, rest) → nat_eq b 60 ≡ true → ⊥
    not_open b bs e k = let z : b ≡ 60 = eqb-true b 60 k in none_some (c, rest) (sym (ap (λ (n : ℕ). char_at 60 (n ∷ bs)) z) ∙ e)

    by_head : (bytes : List ℕ) → char_at 60 bytes ≡ Some (c, rest) → stripped (60 ∷ fs) bytes ≡ None
    by_head [] e = absurd (cc)
    by_head (b ∷ bs) e = no_bracket 60 b fs bs (nat_eq b 60) refl (not_open b bs e)

text_dispatch : (bytes : List ℕ) → ((fs : List ℕ) → stripped (60 ∷ fs) bytes ≡ None) → piece_at bytes ≡ text_at bytes
unfolding piece_at
text_dispatch bytes h =
    ap (λ (o : Option (List ℕ)). where_some o gap_at
    (where_some (stripped (codes "</") bytes) end_at (where_some (stripped (codes "<") bytes) whole_at (text_at bytes)))) (h (codes "["))
    ∙ ap (λ (o : Option (List ℕ)). where_some o end_at (where_some (stripped (codes "<") bytes) whole_at (text_at bytes))) (h (codes "/"))
    ∙ ap (λ (o : Option (List ℕ)). where_some o whole_at (text_at bytes)) (h [])

text_read : (s bytes rest : List ℕ) → (length s == 0) ≡ false → IsUtf8 s → Each (IsChar 60) s bytes rest → char_at 60 rest ≡ None
    → text_at bytes ≡ Some (piece.Text s, rest)
unfolding text_at
text_read s bytes rest some u h e =
    ap (λ (t : List ℕ × List ℕ). if length t.0 == 0 then None else (checked t.0 >>= λ v. Some (piece.Text v, t.1))) (chars_written 60 s bytes rest h e)
    ∙ ap (λ (v : Bool). if v then None else (checked s >>= λ v. Some (piece.Text v, rest))) some
    ∙ ap (λ (o : Option (List ℕ)). o >>= λ v. Some (piece.Text v, rest)) (checked_ok s u)

cons_some : (c : ℕ) (s : List ℕ) → (length (c ∷ s) == 0) ≡ false
cons_some c s = grind (arith, nat_tests)

text_written : (s bytes rest : List ℕ) → s ≢ [] → IsUtf8 s → Each (IsChar 60) s bytes rest → char_at 60 rest ≡ None → piece_at bytes ≡ Some (piece.Text s, rest)
text_written [] bytes rest some u h e = absurd (some refl)
text_written (c ∷ s) bytes rest some u h e = text_dispatch bytes (λ fs. char_bracket c bytes h.0 fs h.1) ∙ text_read (c ∷ s) bytes rest (cons_some c s) u h e

pub piece_written : (p : Piece) (bytes rest : List ℕ) → IsPiece p bytes rest → ((is_text p ≡ false) ⊎ (char_at 60 rest ≡ None))
    → piece_at bytes ≡ Some (p, rest)
piece_written (piece.Text s) bytes rest h (inl k) = absurd (cc)
piece_written (piece.Text s) bytes rest h (inr k) = text_written s bytes rest h.0 h.1 h.2 k
piece_written (piece.Gap n) bytes rest h k = ap piece_at h.1 ∙ gap_dispatch (n ++ (codes "]>" ++ rest)) ∙ gap_written n rest h.0
piece_written (piece.Start t) bytes rest h k = ap piece_at h.1 ∙ tag_piece t h.0 (codes ">" ++ rest) h.2 ∙ start_written t h.0 rest h.2
piece_written (piece.Whole t) bytes rest h k = ap piece_at h.1 ∙ tag_piece t h.0 (codes "/>" ++ rest) h.2 ∙ whole_written t h.0 rest h.2
piece_written (piece.End n) bytes rest h k = ap piece_at h.3 ∙ end_dispatch (n ++ (h.1 ++ (codes ">" ++ rest))) ∙ end_written n h.1 rest h.0 h.2

-- what is no text begins with <
bracket_first : (p : Piece) (bytes rest : List ℕ) → IsPiece p bytes rest → is_text p ≡ false → char_at 60 bytes ≡ None
bracket_first (piece.Text s) bytes rest h k = absurd (cc)
bracket_first (piece.Gap n) bytes rest h k = ap (char_at 60) h.1
bracket_first (piece.Start t) bytes rest h k = ap (char_at 60) h.1
bracket_first (piece.Whole t) bytes rest h k = ap (char_at 60) h.1
bracket_first (piece.End n) bytes rest h k = ap (char_at 60) h.3

next_plain : (v : Bool) (ps : List Piece) (bytes : List ℕ) → (v && begins_with_text ps) ≡ false → Each IsPiece ps bytes []
    → (v ≡ false) ⊎ (char_at 60 bytes ≡ None)
next_plain false ps bytes h k = inl refl
next_plain true [] bytes h k = inr (ap (char_at 60) k)
next_plain true (p ∷ ps) bytes h k = inr (bracket_first p bytes k.0 k.1 h)

no_piece : piece_at [] ≡ None
unfolding piece_at text_at many
no_piece = refl

each_piece : (ps : List Piece) (bytes : List ℕ) → Apart ps → Each IsPiece ps bytes [] → each piece_at bytes ≡ (ps, [])
each_piece [] bytes a h = each_none piece_at piece_shrinks bytes (ap piece_at h ∙ no_piece) ∙ (λ i. ([], h i))
each_piece (p ∷ ps) bytes a h =
    each_more piece_at piece_shrinks bytes (p, h.0) (piece_written p bytes h.0 h.1 (next_plain (is_text p) ps h.0 a.0 h.2))
    ∙ ap (put p) (each_piece ps h.0 a.1 h.2)

-- what is spelled so is read
pub spelled_pieces : (ps : List Piece) (bytes : List ℕ) → SpellsPieces ps bytes → pieces_of bytes ≡ Some ps
unfolding pieces_of
spelled_pieces ps bytes h = ap (λ (t : List Piece × List ℕ). if length t.1 == 0 then Some t.0 else None) (each_piece ps bytes h.apart h.pieces)

-- bytes are one list of pieces at most
pub spelled_once : (ps qs : List Piece) (bytes : List ℕ) → SpellsPieces ps bytes → SpellsPieces qs bytes → ps ≡ qs
spelled_once ps qs bytes p q = some_is ps qs (sym (spelled_pieces ps bytes p) ∙ spelled_pieces qs bytes q)
