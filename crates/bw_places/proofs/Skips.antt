-- Bytes in which no start tag begins.
use Rattle.std.proofs.Common.{◌≡◌, ◌≢◌, ◌⊎◌, ℕ, suc, ◌+◌, Bool, true, false, not, ◌&&◌, ◌==◌, List, [], ◌∷◌, ◌++◌, length, drop, refl, ap, sym, ◌∙◌, subst}
use Rattle.std.proofs.Common.{arith, codes, inl, inr}
use Rattle.std.proofs.lemmas.List.{drop-drop, append_assoc}
use Rattle.std.proofs.lemmas.Bool.{ne_eqb}
use Rattle.bw_lang.specs.Text.Bytes.{is_blank}
use Rattle.bw_lang.specs.Template.MarkupNames.{first_of, later_of, begins}
use Rattle.bw_lang.specs.Template.Pieces.{passes, IsNameOf, IsRef, IsChar, Each, IsValue, IsAttr, IsTag, IsPiece}
use Rattle.bw_lang.specs.declared.pieces.NameClass.{NameClass}
use Rattle.bw_lang.specs.declared.pieces.NameClass.TheVariants as class
use Rattle.bw_lang.specs.declared.pieces.Piece.{Piece}
use Rattle.bw_lang.specs.declared.pieces.Piece.TheVariants as piece
use Rattle.bw_lang.specs.declared.pieces.RawAttr.{RawAttr}
use Rattle.bw_lang.specs.declared.pieces.RawValue.{RawValue}
use Rattle.bw_lang.specs.declared.pieces.RawValue.TheVariants as raw
use Rattle.bw_lang.specs.declared.pieces.Tag.{Tag}
use Rattle.bw_places.specs.Tags.{begins_tag, tag_place}

-- the rest stands so many bytes behind, and no start tag begins in front of it
pub record Skips (bytes behind : List ℕ) (j : ℕ) : Type 0 where
  pub over : (n at : ℕ) → tag_place bytes n at ≡ tag_place behind n (at + j)
  pub rest : drop j bytes ≡ behind

abbrev pub Jumps : List ℕ → List ℕ → Type 0
Jumps bytes behind = (j : ℕ) × Skips bytes behind j

pub stay : (bytes : List ℕ) → Jumps bytes bytes
stay bytes = (0, record { over = λ n at. ap (tag_place bytes n) (omega arith); rest = refl })

pub jump : (a b c : List ℕ) → Jumps a b → Jumps b c → Jumps a c
jump a b c (i, s) (j, t) = (
  i + j,
  record {
    over = λ n at. s.over n at ∙ t.over n (at + i) ∙ ap (tag_place c n) (omega arith);
    rest = sym (drop-drop j i a) ∙ ap (drop j) s.rest ∙ t.rest;
  },
)

same_bytes : (a b c : List ℕ) → a ≡ b → Jumps b c → Jumps a c
same_bytes a b c e s = subst (λ x. Jumps x c) (sym e) s

-- no tag begins at a byte that isn't `<`
none_begins : (b : ℕ) (r : List ℕ) → b ≢ 60 → begins_tag (b ∷ r) ≡ false
none_begins b [] ne = refl
none_begins b (c ∷ r) ne = let e = ne_eqb b 60 ne in rw e refl

pub one_byte : (b : ℕ) (r : List ℕ) → b ≢ 60 → Jumps (b ∷ r) r
one_byte b r ne = (1, record { over = λ n at. let e = none_begins b r ne in rw e refl; rest = refl })

-- each of the bytes passes a test that `<` fails
fails : (x y : Bool) → x ≡ false → (x && y) ≡ true → ⊥
fails true y e a = cc
fails false y e a = cc

behind : (x y : Bool) → (x && y) ≡ true → y ≡ true
behind true y a = a
behind false y a = cc

pub passed : (p : ℕ → Bool) (w r : List ℕ) → p 60 ≡ false → passes p w ≡ true → Jumps (w ++ r) r
passed p [] r never good = stay r
passed p (b ∷ w) r never good = jump (b ∷ (w ++ r)) (w ++ r) r
    (one_byte b (w ++ r) (λ e. fails (p b) (passes p w) (ap p e ∙ never) good)) (passed p w r never (behind (p b) (passes p w) good))

-- names, and references and other characters of a text
pub over_name : (k : NameClass) (w r : List ℕ) → IsNameOf k w → Jumps (w ++ r) r
over_name class.Tag w r n = passed (later_of class.Tag) w r refl n.later
over_name class.Attr w r n = passed (later_of class.Attr) w r refl n.later
over_name class.Word w r n = passed (later_of class.Word) w r refl n.later

pub over_reference : (c : ℕ) (w r : List ℕ) → IsRef c w → Jumps (w ++ r) r
over_reference c w r (inl e) = same_bytes _ (codes "&amp;" ++ r) r (ap (λ x. x ++ r) e.1) (passed (λ b. not (b == 60)) (codes "&amp;") r refl refl)
over_reference c w r (inr (inl e)) = same_bytes _ (codes "&lt;" ++ r) r (ap (λ x. x ++ r) e.1) (passed (λ b. not (b == 60)) (codes "&lt;") r refl refl)
over_reference c w r (inr (inr (inl e))) = same_bytes _ (codes "&gt;" ++ r) r (ap (λ x. x ++ r) e.1) (passed (λ b. not (b == 60)) (codes "&gt;") r refl refl)
over_reference c w r (inr (inr (inr e))) = same_bytes _ (codes "&quot;" ++ r) r (ap (λ x. x ++ r) e.1) (passed (λ b. not (b == 60))
    (codes "&quot;") r refl refl)

pub over_char : (stop c : ℕ) (bytes r : List ℕ) → IsChar stop c bytes r → Jumps bytes r
over_char stop c bytes r (inl e) = same_bytes bytes (c ∷ r) r e.0 (one_byte c r e.2)
over_char stop c bytes r (inr (w, f, e)) = same_bytes bytes (w ++ r) r e (over_reference c w r f)

pub over_chars : (stop : ℕ) (cs bytes r : List ℕ) → Each (IsChar stop) cs bytes r → Jumps bytes r
over_chars stop [] bytes r e = same_bytes bytes r r e (stay r)
over_chars stop (c ∷ cs) bytes r (mid, x, y) = jump bytes mid r (over_char stop c bytes mid x) (over_chars stop cs mid r y)

-- attributes, and what stands in a tag behind its name
quote_is_none : (q : ℕ) → (q ≡ 34) ⊎ (q ≡ 39) → q ≢ 60
quote_is_none q (inl e) f = omega arith
quote_is_none q (inr e) f = omega arith

pub over_value : (v : RawValue) (bytes r : List ℕ) → IsValue v bytes r → Jumps bytes r
over_value (raw.Fixed v) bytes r (q, which, u, e, cs, t) = same_bytes bytes (q ∷ u) r e
    (jump (q ∷ u) u r (one_byte q u (quote_is_none q which))
    (jump u (q ∷ r) r (over_chars q v u (q ∷ r) cs) (one_byte q r (quote_is_none q which))))
over_value (raw.Hole w) bytes r (n, e) = same_bytes bytes (91 ∷ (w ++ 93 ∷ r)) r e
    (jump (91 ∷ (w ++ 93 ∷ r)) (w ++ 93 ∷ r) r (one_byte 91 _ (λ f. omega arith))
    (jump (w ++ 93 ∷ r) (93 ∷ r) r (over_name class.Word w (93 ∷ r) n) (one_byte 93 r (λ f. omega arith))))

pub over_attr : (a : RawAttr) (bytes r : List ℕ) → IsAttr a bytes r → Jumps bytes r
over_attr a bytes r h = same_bytes bytes (h.blanks ++ (a.name ++ 61 ∷ h.behind)) r h.parts
    (jump (h.blanks ++ (a.name ++ 61 ∷ h.behind)) (a.name ++ 61 ∷ h.behind) r (passed is_blank h.blanks _ refl h.all_blank)
    (jump (a.name ++ 61 ∷ h.behind) (61 ∷ h.behind) r (over_name class.Attr a.name _ h.name)
    (jump (61 ∷ h.behind) h.behind r (one_byte 61 h.behind (λ f. omega arith)) (over_value a.value h.behind r h.value))))

pub over_attrs : (xs : List RawAttr) (bytes r : List ℕ) → Each IsAttr xs bytes r → Jumps bytes r
over_attrs [] bytes r e = same_bytes bytes r r e (stay r)
over_attrs (a ∷ xs) bytes r (mid, x, y) = jump bytes mid r (over_attr a bytes mid x) (over_attrs xs mid r y)

pub over_tag : (t : Tag) (bytes r : List ℕ) → IsTag t bytes r → Jumps bytes r
over_tag t bytes r h = same_bytes bytes (t.name ++ h.behind) r h.parts
    (jump (t.name ++ h.behind) h.behind r (over_name class.Tag t.name h.behind h.name)
    (jump h.behind h.after_attrs r (over_attrs t.attrs h.behind h.after_attrs h.attrs)
    (same_bytes h.after_attrs (h.blanks ++ r) r h.end (passed is_blank h.blanks r refl h.all_blank))))
