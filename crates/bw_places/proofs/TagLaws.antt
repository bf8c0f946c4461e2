-- The start tag n of a template is that of its element n.
use Rattle.std.proofs.Common.{◌≡◌, ◌≢◌, ◌⊎◌, ℕ, zero, suc, ◌+◌, ◌-◌, Bool, true, false, ◌&&◌, List, [], ◌∷◌, ◌++◌, length, drop, refl, ap, sym, ◌∙◌, subst}
use Rattle.std.proofs.Common.{arith, codes, inl, inr, Some, None}
use Rattle.std.specs.List.{slice_get}
use Rattle.std.proofs.lemmas.List.{drop-drop, append_assoc, append-nil}
use Rattle.std.proofs.lemmas.Bool.{ne_eqb}
use Rattle.std.specs.Char.{is_ascii_lowercase}
use Rattle.bw_lang.specs.Document.Forest.{Forest, none, text, gap, element}
use Rattle.bw_lang.specs.Template.MarkupNames.{first_of, later_of, begins}
use Rattle.bw_lang.specs.Template.PieceItems.{ReadsAs, ReadsPieces}
use Rattle.bw_lang.specs.Template.Pieces.{passes, IsNameOf, IsChar, Each, IsTag, IsPiece, SpellsPieces}
use Rattle.bw_lang.specs.Text.Bytes.{is_blank}
use Rattle.bw_lang.specs.declared.pieces.NameClass.TheVariants as class
use Rattle.bw_lang.specs.declared.pieces.Piece.{Piece}
use Rattle.bw_lang.specs.declared.pieces.Piece.TheVariants as piece
use Rattle.bw_lang.specs.declared.pieces.Tag.{Tag}
use Rattle.bw_places.specs.Tags.{tags, begins_tag, tag_place, TagsStand}
use Rattle.bw_places.proofs.Skips.{Skips, Jumps, jump, over_chars, over_name, over_tag, one_byte, passed}

-- the tags of the start tags among pieces
abbrev piece_tags : List Piece → List (List ℕ)
piece_tags [] = []
piece_tags (piece.Text s ∷ ps) = piece_tags ps
piece_tags (piece.Gap n ∷ ps) = piece_tags ps
piece_tags (piece.Start t ∷ ps) = t.name ∷ piece_tags ps
piece_tags (piece.Whole t ∷ ps) = t.name ∷ piece_tags ps
piece_tags (piece.End n ∷ ps) = piece_tags ps

-- the pieces of items have their tags
reads_tags : (names : List (List ℕ)) (f : Forest) (ps rest : List Piece) → ReadsPieces names f ps rest → piece_tags ps ≡ tags f ++ piece_tags rest
reads_tags names none ps rest e = ap piece_tags e
reads_tags names (text s f) ps rest (qs, e, r) = ap piece_tags e ∙ reads_tags names f qs rest r
reads_tags names (gap g f) ps rest (qs, (n, e, h), r) = ap piece_tags e ∙ reads_tags names f qs rest r
reads_tags names (element tag attrs inner f) ps rest (qs, (t, e, a, inl (x, i)), r) =
    let one : piece_tags ps ≡ t.name ∷ piece_tags qs = ap piece_tags x in
    let two = reads_tags names f qs rest r in
    let three : (tags inner ++ tags f) ++ piece_tags rest ≡ tags f ++ piece_tags rest = ap (λ l. (tags l ++ tags f) ++ piece_tags rest) i in
    cc
reads_tags names (element tag attrs inner f) ps rest (qs, (t, e, a, inr (inl (x, v, i))), r) =
    let one : piece_tags ps ≡ t.name ∷ piece_tags qs = ap piece_tags x in
    let two = reads_tags names f qs rest r in
    let three : (tags inner ++ tags f) ++ piece_tags rest ≡ tags f ++ piece_tags rest = ap (λ l. (tags l ++ tags f) ++ piece_tags rest) i in
    cc
reads_tags names (element tag attrs inner f) ps rest (qs, (t, e, a, inr (inr (mid, x, v, m))), r) =
    let one : piece_tags ps ≡ t.name ∷ piece_tags mid = ap piece_tags x in
    let two : piece_tags mid ≡ tags inner ++ piece_tags qs = reads_tags names inner mid (piece.End t.name ∷ qs) m in
    let three : tags inner ++ piece_tags qs ≡ tags inner ++ (tags f ++ piece_tags rest) = ap (λ l. tags inner ++ l) (reads_tags names f qs rest r) in
    let four = append_assoc (tags inner) (tags f) (piece_tags rest) in
    cc

-- the start tag n stands so many bytes behind the first
record Found (bytes : List ℕ) (n : ℕ) (tag : List ℕ) : Type 0 where
  i : ℕ
  more : List ℕ
  place : (at : ℕ) → tag_place bytes n at ≡ Some (at + i)
  here : drop i bytes ≡ 60 ∷ (tag ++ more)

carry : (bytes mid : List ℕ) (n : ℕ) (tag : List ℕ) → Jumps bytes mid → Found mid n tag → Found bytes n tag
carry bytes mid n tag (j, s) f = record {
  i = j + f.i;
  more = f.more;
  place = λ at. s.over n at ∙ f.place (at + j) ∙ ap Some (omega arith);
  here = sym (drop-drop f.i j bytes) ∙ ap (drop f.i) s.rest ∙ f.here;
}

no_tag : (c : ℕ) (r : List ℕ) → is_ascii_lowercase c ≡ false → Jumps (60 ∷ c ∷ r) (c ∷ r)
no_tag c r e = (1, record { over = λ n at. rw e refl; rest = refl })

begins_at : (w r : List ℕ) → begins is_ascii_lowercase w ≡ true → begins_tag (60 ∷ (w ++ r)) ≡ true
begins_at [] r e = cc
begins_at (c ∷ w) r e = e

tag_first : (m : List ℕ) (at : ℕ) → begins_tag (60 ∷ m) ≡ true → tag_place (60 ∷ m) zero at ≡ Some at
tag_first m at e = rw e refl

tag_later : (m : List ℕ) (k at : ℕ) → begins_tag (60 ∷ m) ≡ true → tag_place (60 ∷ m) (suc k) at ≡ tag_place m k (at + 1)
tag_later m k at e =
    let f : suc k - 1 ≡ k = omega arith in
    let g = ne_eqb (suc k) 0 (λ z. omega arith) in
    rw (e, g, f) refl

tag_found : (t : Tag) (bytes m mid : List ℕ) (more : List (List ℕ)) (n : ℕ) (tag : List ℕ) → bytes ≡ 60 ∷ m → IsTag t m mid
    → slice_get (t.name ∷ more) n ≡ Some tag → ((k : ℕ) → slice_get more k ≡ Some tag → Found mid k tag) → Found bytes n tag
tag_found t bytes m mid more zero tag e h is next = subst (λ b. Found b zero tag) (sym e) (record {
  i = 0;
  more = h.behind;
  place = λ at. tag_first m at (starts t m mid h) ∙ ap Some (omega arith);
  here = ap (λ l. 60 ∷ l) h.parts ∙ ap (λ w. 60 ∷ (w ++ h.behind)) (named t.name tag is);
})
  where
    starts : (t : Tag) (m mid : List ℕ) → IsTag t m mid → begins_tag (60 ∷ m) ≡ true
    starts t m mid h = subst (λ l. begins_tag (60 ∷ l) ≡ true) (sym h.parts) (begins_at t.name h.behind h.name.first)

    named : (a b : List ℕ) → Some a ≡ Some b → a ≡ b
    named a b e = cc
tag_found t bytes m mid more (suc k) tag e h is next = subst (λ b. Found b (suc k) tag) (sym e) (behind (carry m mid k tag (over_tag t m mid h) (next k is)))
  where
    starts : begins_tag (60 ∷ m) ≡ true
    starts = subst (λ l. begins_tag (60 ∷ l) ≡ true) (sym h.parts) (begins_at t.name h.behind h.name.first)

    behind : Found m k tag → Found (60 ∷ m) (suc k) tag
    behind f = record {
      i = 1 + f.i;
      more = f.more;
      place = λ at. tag_later m k at starts ∙ f.place (at + 1) ∙ ap Some (omega arith);
      here = sym (drop-drop f.i 1 (60 ∷ m)) ∙ f.here;
    }

piece_found : (ps : List Piece) (bytes : List ℕ) (n : ℕ) (tag : List ℕ) → Each IsPiece ps bytes [] → slice_get (piece_tags ps) n ≡ Some tag → Found bytes n tag
piece_found [] bytes n tag e is = cc
piece_found (piece.Text s ∷ ps) bytes n tag (mid, (ne, u, cs), r) is = carry bytes mid n tag (over_chars 60 s bytes mid cs) (piece_found ps mid n tag r is)
piece_found (piece.Gap w ∷ ps) bytes n tag (mid, (name, e), r) is = subst (λ b. Found b n tag) (sym e)
    (carry _ mid n tag
    (jump (60 ∷ 91 ∷ (w ++ (codes "]>" ++ mid))) (91 ∷ (w ++ (codes "]>" ++ mid))) mid (no_tag 91 _ refl)
    (jump (91 ∷ (w ++ (codes "]>" ++ mid))) (w ++ (codes "]>" ++ mid)) mid (one_byte 91 _ (λ f. omega arith))
    (jump (w ++ (codes "]>" ++ mid)) (codes "]>" ++ mid) mid (over_name class.Word w _ name)
    (jump (codes "]>" ++ mid) (codes ">" ++ mid) mid (one_byte 93 _ (λ f. omega arith)) (one_byte 62 mid (λ f. omega arith))))))
    (piece_found ps mid n tag r is))
piece_found (piece.Start t ∷ ps) bytes n tag (mid, (m, e, h), r) is =
    tag_found t bytes m (codes ">" ++ mid) (piece_tags ps) n tag e h is
    (λ k more. carry _ mid k tag (one_byte 62 mid (λ f. omega arith)) (piece_found ps mid k tag r more))
piece_found (piece.Whole t ∷ ps) bytes n tag (mid, (m, e, h), r) is =
    tag_found t bytes m (codes "/>" ++ mid) (piece_tags ps) n tag e h is
    (λ k more. carry _ mid k tag
    (jump (codes "/>" ++ mid) (codes ">" ++ mid) mid (one_byte 47 _ (λ f. omega arith)) (one_byte 62 mid (λ f. omega arith)))
    (piece_found ps mid k tag r more))
piece_found (piece.End w ∷ ps) bytes n tag (mid, (name, b, all, e), r) is = subst (λ x. Found x n tag) (sym e)
    (carry _ mid n tag
    (jump (60 ∷ 47 ∷ (w ++ (b ++ (codes ">" ++ mid)))) (47 ∷ (w ++ (b ++ (codes ">" ++ mid)))) mid (no_tag 47 _ refl)
    (jump (47 ∷ (w ++ (b ++ (codes ">" ++ mid)))) (w ++ (b ++ (codes ">" ++ mid))) mid (one_byte 47 _ (λ f. omega arith))
    (jump (w ++ (b ++ (codes ">" ++ mid))) (b ++ (codes ">" ++ mid)) mid (over_name class.Tag w _ name)
    (jump (b ++ (codes ">" ++ mid)) (codes ">" ++ mid) mid (passed is_blank b _ refl all) (one_byte 62 mid (λ f. omega arith))))))
    (piece_found ps mid n tag r is))

pub tags_stand : TagsStand
tags_stand names ps f bytes sp reads n tag is =
    let e : piece_tags ps ≡ tags f ++ [] = reads_tags names f ps [] reads in
    let g : slice_get (piece_tags ps) n ≡ Some tag = ap (λ l. slice_get l n) (e ∙ append-nil (tags f)) ∙ is in
    let found = piece_found ps bytes n tag sp.pieces g in
    (found.i, found.more, found.place 0 ∙ ap Some (omega arith), found.here)
