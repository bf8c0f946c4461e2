-- The pieces that are read are those that the bytes are spelled with.
use Rattle.std.proofs.Common.{◌≡◌, ℕ, zero, suc, ◌≤◌, Bool, true, false, List, [], ◌∷◌, ◌++◌, length, take, Option, Some, None, refl}
use Rattle.std.proofs.Common.{sym, ap, subst, ◌∙◌, arith, ◌⊎◌, inl, inr}
use Rattle.std.specs.Prelude.{◌==◌, ◌&&◌, codes}
use Rattle.std.proofs.lemmas.List.{take-append-drop, nil_from_length}
use Rattle.std.proofs.lemmas.Bool.{eqb-true}
use Rattle.bw_lang.specs.declared.pieces.NameClass.TheVariants as class
use Rattle.bw_lang.specs.declared.pieces.Piece.{Piece}
use Rattle.bw_lang.specs.declared.pieces.Piece.TheVariants as piece
use Rattle.bw_lang.specs.Table.Options.{◌>>=◌, where_some}
use Rattle.bw_tmpl.specs.Steps.Reading.{stripped, leading, past_blanks, name_at, char_at, many, many_next, each, checked}
use Rattle.bw_tmpl.specs.Steps.Reading.{tag_at, whole_at, end_at, gap_at, text_at, piece_at, pieces_of}
use Rattle.bw_lang.specs.Text.Bytes.{is_blank}
use Rattle.bw_lang.specs.Template.Pieces.{Each, IsTag, IsPiece, is_text, begins_with_text, Apart, SpellsPieces}
use Rattle.bw_lang.proofs.Options.{none_some, bind_some, where_cases, cond_some, cond_none, some_is}
use Rattle.bw_tmpl.proofs.Many.{stripped_is, each_none}
use Rattle.bw_tmpl.proofs.Characters.{char_shrinks}
use Rattle.bw_tmpl.proofs.Shrinking.{piece_shrinks}
use Rattle.bw_tmpl.proofs.SpelledNames.{leading_front, name_is}
use Rattle.bw_tmpl.proofs.SpelledValues.{chars_is, checked_is}
use Rattle.bw_tmpl.proofs.SpelledTags.{tag_is}
use Rattle.std.proofs.Math.Bool.{and-false}

-- ---- pieces

whole_is : (bytes : List ℕ) (x : Piece × List ℕ) → whole_at bytes ≡ Some x → IsPiece x.0 (60 ∷ bytes) x.1 × (is_text x.0 ≡ false)
unfolding whole_at
whole_is bytes x h =
    let a =
    bind_some (tag_at bytes) (λ t. where_some (stripped (codes "/>") t.1) (λ rest. Some (piece.Whole t.0, rest))
    (where_some (stripped (codes ">") t.1) (λ rest. Some (piece.Start t.0, rest)) None)) x h in
    let t = tag_is bytes a.0 a.1 in
    elim (where_cases (stripped (codes "/>") a.0.1) (λ rest. Some (piece.Whole a.0.0, rest)) _ (Some x) a.2) [
      | inl b ↦
          let k : IsTag a.0.0 bytes (codes "/>" ++ b.0) = subst (λ (l : List ℕ). IsTag a.0.0 bytes l) (stripped_is (codes "/>") a.0.1 b.0 b.1) t in
          subst (λ (y : Piece × List ℕ). IsPiece y.0 (60 ∷ bytes) y.1 × (is_text y.0 ≡ false)) (some_is (piece.Whole a.0.0, b.0) x b.2) ((bytes, refl, k), refl)
      | inr n ↦
          elim (where_cases (stripped (codes ">") a.0.1) (λ rest. Some (piece.Start a.0.0, rest)) None (Some x) n.1) [
            | inl b ↦
                let k : IsTag a.0.0 bytes (codes ">" ++ b.0) = subst (λ (l : List ℕ). IsTag a.0.0 bytes l) (stripped_is (codes ">") a.0.1 b.0 b.1) t in
                subst (λ (y : Piece × List ℕ). IsPiece y.0 (60 ∷ bytes) y.1 × (is_text y.0 ≡ false)) (some_is (piece.Start a.0.0, b.0) x b.2)
                ((bytes, refl, k), refl)
            | inr z ↦ absurd (none_some x z.1)
          ]
    ]

end_is : (bytes : List ℕ) (x : Piece × List ℕ) → end_at bytes ≡ Some x → IsPiece x.0 (codes "</" ++ bytes) x.1 × (is_text x.0 ≡ false)
unfolding end_at
end_is bytes x h =
    let a = bind_some (name_at class.Tag bytes) (λ n. stripped (codes ">") (past_blanks n.1) >>= λ rest. Some (piece.End n.0, rest)) x h in
    let b = bind_some (stripped (codes ">") (past_blanks a.0.1)) (λ rest. Some (piece.End a.0.0, rest)) x a.2 in
    let n = name_is class.Tag bytes a.0 a.1 in
    let w = take (leading is_blank a.0.1) a.0.1 in
    let e : bytes ≡ a.0.0 ++ (w ++ (codes ">" ++ b.0)) =
    n.parts ∙ ap (λ (l : List ℕ). a.0.0 ++ l)
    (sym (take-append-drop (leading is_blank a.0.1) a.0.1) ∙ ap (λ (l : List ℕ). w ++ l) (stripped_is (codes ">") (past_blanks a.0.1) b.0 b.1)) in
    subst (λ (y : Piece × List ℕ). IsPiece y.0 (codes "</" ++ bytes) y.1 × (is_text y.0 ≡ false)) (some_is (piece.End a.0.0, b.0) x b.2)
    ((n.name, w, leading_front is_blank a.0.1, ap (λ (l : List ℕ). codes "</" ++ l) e), refl)

gap_is : (bytes : List ℕ) (x : Piece × List ℕ) → gap_at bytes ≡ Some x → IsPiece x.0 (codes "<[" ++ bytes) x.1 × (is_text x.0 ≡ false)
unfolding gap_at
gap_is bytes x h =
    let a = bind_some (name_at class.Word bytes) (λ n. stripped (codes "]>") n.1 >>= λ rest. Some (piece.Gap n.0, rest)) x h in
    let b = bind_some (stripped (codes "]>") a.0.1) (λ rest. Some (piece.Gap a.0.0, rest)) x a.2 in
    let n = name_is class.Word bytes a.0 a.1 in
    let e : bytes ≡ a.0.0 ++ (codes "]>" ++ b.0) = n.parts ∙ ap (λ (l : List ℕ). a.0.0 ++ l) (stripped_is (codes "]>") a.0.1 b.0 b.1) in
    subst (λ (y : Piece × List ℕ). IsPiece y.0 (codes "<[" ++ bytes) y.1 × (is_text y.0 ≡ false)) (some_is (piece.Gap a.0.0, b.0) x b.2)
    ((n.name, ap (λ (l : List ℕ). codes "<[" ++ l) e), refl)

-- a text, behind which no character stands
text_is : (bytes : List ℕ) (x : Piece × List ℕ) → text_at bytes ≡ Some x → IsPiece x.0 bytes x.1 × (char_at 60 x.1 ≡ None) × (char_at 60 bytes ≡ None → ⊥)
unfolding text_at
text_is bytes x h =
    let t = each (char_at 60) bytes in
    let g = cond_none (length t.0 == 0) (checked t.0 >>= λ v. Some (piece.Text v, t.1)) x h in
    let a = bind_some (checked t.0) (λ v. Some (piece.Text v, t.1)) x g.1 in
    let u = checked_is t.0 a.0 a.1 in
    let s = chars_is 60 bytes in
    let some : t.0 ≡ [] → ⊥ = λ (z : t.0 ≡ []). true_false (sym (ap (λ (l : List ℕ). length l == 0) z) ∙ g.0) in
    let first : char_at 60 bytes ≡ None → ⊥ =
    λ (z : char_at 60 bytes ≡ None). some (ap (λ (p : List ℕ × List ℕ). p.0) (each_none (char_at 60) (char_shrinks 60) bytes z)) in
    let made : IsPiece (piece.Text t.0) bytes t.1 = (some, u.0, s.all) in
    let q : (piece.Text t.0, t.1) ≡ x = (λ i. (piece.Text (u.1 i), t.1)) ∙ some_is (piece.Text a.0, t.1) x a.2 in
    subst (λ (y : Piece × List ℕ). IsPiece y.0 bytes y.1 × (char_at 60 y.1 ≡ None) × (char_at 60 bytes ≡ None → ⊥)) q (made, s.no_more, first)
  where
    true_false : true ≡ false → ⊥
    true_false p = cc

pub record Met (bytes : List ℕ) (x : Piece × List ℕ) : Type 0 where
  pub is : IsPiece x.0 bytes x.1
  pub kind : (is_text x.0 ≡ false) ⊎ ((char_at 60 x.1 ≡ None) × (char_at 60 bytes ≡ None → ⊥))

met_at : (p bytes front : List ℕ) (x : Piece × List ℕ) → bytes ≡ front ++ p → IsPiece x.0 (front ++ p) x.1 × (is_text x.0 ≡ false) → Met bytes x
met_at p bytes front x e k = record { is = subst (λ (l : List ℕ). IsPiece x.0 l x.1) (sym e) k.0; kind = inl k.1 }

pub piece_met : (bytes : List ℕ) (x : Piece × List ℕ) → piece_at bytes ≡ Some x → Met bytes x
unfolding piece_at
piece_met bytes x h =
    elim (where_cases (stripped (codes "<[") bytes) gap_at _ (Some x) h) [
      | inl a ↦ met_at a.0 bytes (codes "<[") x (stripped_is (codes "<[") bytes a.0 a.1) (gap_is a.0 x a.2)
      | inr n ↦
          elim (where_cases (stripped (codes "</") bytes) end_at _ (Some x) n.1) [
            | inl a ↦ met_at a.0 bytes (codes "</") x (stripped_is (codes "</") bytes a.0 a.1) (end_is a.0 x a.2)
            | inr m ↦
                elim (where_cases (stripped (codes "<") bytes) whole_at (text_at bytes) (Some x) m.1) [
                  | inl a ↦ met_at a.0 bytes (codes "<") x (stripped_is (codes "<") bytes a.0 a.1) (whole_is a.0 x a.2)
                  | inr z ↦ let k = text_is bytes x z.1 in record { is = k.0; kind = inr (k.1, k.2) }
                ]
          ]
    ]

-- ---- lists of pieces

abbrev head_is_plain : List Piece → List ℕ → Type 0
head_is_plain ps bytes = char_at 60 bytes ≡ None → begins_with_text ps ≡ false

pub record Listed (bytes : List ℕ) (t : List Piece × List ℕ) : Type 0 where
  pub all : Each IsPiece t.0 bytes t.1
  pub apart : Apart t.0
  pub plain : head_is_plain t.0 bytes

behind_text : (x : Piece × List ℕ) (bytes : List ℕ) (ps : List Piece)
    → ((is_text x.0 ≡ false) ⊎ ((char_at 60 x.1 ≡ None) × (char_at 60 bytes ≡ None → ⊥))) → head_is_plain ps x.1 → (is_text x.0 && begins_with_text ps) ≡ false
behind_text x bytes ps (inl h) k = ap (λ (v : Bool). v && begins_with_text ps) h
behind_text x bytes ps (inr h) k = ap (λ (v : Bool). is_text x.0 && v) (k h.0) ∙ and-false (is_text x.0)

first_plain : (x : Piece × List ℕ) (bytes : List ℕ) → ((is_text x.0 ≡ false) ⊎ ((char_at 60 x.1 ≡ None) × (char_at 60 bytes ≡ None → ⊥)))
    → char_at 60 bytes ≡ None → is_text x.0 ≡ false
first_plain x bytes (inl h) e = h
first_plain x bytes (inr h) e = absurd (h.1 e)

pieces_listed : (n : ℕ) (bytes : List ℕ) → length bytes ≤ n → Listed bytes (many piece_at n bytes)
unfolding many
pieces_listed zero bytes le = record { all = refl; apart = tt; plain = λ (h : char_at 60 bytes ≡ None). refl }
pieces_listed (suc n) bytes le = one (piece_at bytes) refl (pieces_listed n)
  where
    one : (o : Option (Piece × List ℕ)) → piece_at bytes ≡ o → ((bs : List ℕ) → length bs ≤ n → Listed bs (many piece_at n bs))
        → Listed bytes (many_next o bytes (many piece_at n))
    one None e ih = record { all = refl; apart = tt; plain = λ (h : char_at 60 bytes ≡ None). refl }
    one (Some x) e ih =
        let k = ih x.1 (omega (arith, piece_shrinks.less bytes x e)) in
        let m = piece_met bytes x e in
        record { all = (x.1, m.is, k.all); apart = (behind_text x bytes (many piece_at n x.1).0 m.kind k.plain, k.apart); plain = first_plain x bytes m.kind }

-- what is read is spelled so
pub pieces_spelled : (bytes : List ℕ) (ps : List Piece) → pieces_of bytes ≡ Some ps → SpellsPieces ps bytes
unfolding pieces_of
pieces_spelled bytes ps h =
    let t = each piece_at bytes in
    let c = cond_some (length t.1 == 0) t.0 ps h in
    let l = pieces_listed (length bytes) bytes (omega arith) in
    let z : t.1 ≡ [] = nil_from_length t.1 (eqb-true (length t.1) 0 c.0) in
    let a : Each IsPiece t.0 bytes [] = subst (λ (r : List ℕ). Each IsPiece t.0 bytes r) z l.all in
    let made : SpellsPieces t.0 bytes = record { apart = l.apart; pieces = a } in
    subst (λ (qs : List Piece). SpellsPieces qs bytes) c.1 made
