-- Each thing that is read takes a byte at least.
use Rattle.std.proofs.Common.{◌≡◌, ℕ, zero, suc, ◌+◌, ◌<◌, ◌≤◌, true, false, List, [], ◌∷◌, ◌++◌, length, take, drop, Option, Some, None, refl}
use Rattle.std.proofs.Common.{sym, ap, ◌∙◌, arith, inl, inr}
use Rattle.std.specs.Prelude.{◌==◌, codes}
use Rattle.std.proofs.lemmas.List.{length-append, length-drop}
use Rattle.bw_lang.specs.declared.pieces.NameClass.{NameClass}
use Rattle.bw_lang.specs.declared.pieces.NameClass.TheVariants as class
use Rattle.bw_lang.specs.declared.pieces.RawAttr.{RawAttr}
use Rattle.bw_lang.specs.declared.pieces.RawValue.{RawValue}
use Rattle.bw_lang.specs.declared.pieces.RawValue.TheVariants as raw
use Rattle.bw_lang.specs.declared.pieces.Tag.{Tag}
use Rattle.bw_lang.specs.declared.pieces.Piece.{Piece}
use Rattle.bw_lang.specs.declared.pieces.Piece.TheVariants as piece
use Rattle.bw_lang.specs.Table.Options.{◌>>=◌, where_some}
use Rattle.bw_tmpl.specs.Steps.Reading.{stripped, leading, past_blanks, name_at, char_at, many, many_next, each, checked, quoted_at, hole_at, value_at}
use Rattle.bw_tmpl.specs.Steps.Reading.{attr_at, tag_at, whole_at, end_at, gap_at, text_at, piece_at}
use Rattle.bw_lang.specs.Text.Bytes.{is_blank}
use Rattle.bw_lang.specs.Template.MarkupNames.{begins, first_of, later_of}
use Rattle.bw_lang.proofs.Options.{if_some, bind_some, where_cases, cond_some, cond_none, some_is}
use Rattle.bw_tmpl.proofs.Many.{stripped_is, Shrinks, each_more, each_none}
use Rattle.bw_tmpl.proofs.Characters.{char_shrinks}

-- ---- what is behind is not longer

stripped_le : (front bytes rest : List ℕ) → stripped front bytes ≡ Some rest → length rest + length front ≡ length bytes
stripped_le front bytes rest h =
    let e : length bytes ≡ length (front ++ rest) = ap length (stripped_is front bytes rest h) in let k = length-append front rest in omega arith

name_le : (k : NameClass) (bytes : List ℕ) (x : List ℕ × List ℕ) → name_at k bytes ≡ Some x → length x.1 ≤ length bytes
name_le k bytes x h =
    let n = leading (later_of k) bytes in
    let c = cond_some (begins (first_of k) bytes) (take n bytes, drop n bytes) x h in
    let e : drop n bytes ≡ x.1 = ap (λ (p : List ℕ × List ℕ). p.1) c.1 in
    let m : length (drop n bytes) ≡ length x.1 = ap length e in
    let l = length-drop n bytes in omega arith

many_le : {A : Type 0} (step : List ℕ → Option (A × List ℕ)) → Shrinks step → (n : ℕ) (bytes : List ℕ) → length (many step n bytes).1 ≤ length bytes
unfolding many
many_le step s zero bytes = omega arith
many_le {A} step s (suc n) bytes = one (step bytes) refl (many_le step s n)
  where
    one : (o : Option (A × List ℕ)) → step bytes ≡ o → ((bs : List ℕ) → length (many step n bs).1 ≤ length bs)
        → length (many_next o bytes (many step n)).1 ≤ length bytes
    one None e ih = omega arith
    one (Some x) e ih = omega (arith, s.less bytes x e, ih x.1)

each_le : {A : Type 0} (step : List ℕ → Option (A × List ℕ)) → Shrinks step → (bytes : List ℕ) → length (each step bytes).1 ≤ length bytes
each_le step s bytes = many_le step s (length bytes) bytes

quoted_le : (q : ℕ) (bytes : List ℕ) (x : RawValue × List ℕ) → quoted_at q bytes ≡ Some x → length x.1 ≤ length bytes
unfolding quoted_at
quoted_le q bytes x h =
    let t = each (char_at q) bytes in
    let a = bind_some (checked t.0) (λ v. stripped (q ∷ []) t.1 >>= λ rest. Some (raw.Fixed v, rest)) x h in
    let b = bind_some (stripped (q ∷ []) t.1) (λ rest. Some (raw.Fixed a.0, rest)) x a.2 in
    let l = stripped_le (q ∷ []) t.1 b.0 b.1 in
    let m = each_le (char_at q) (char_shrinks q) bytes in
    let e : length b.0 ≡ length x.1 = ap (λ (p : RawValue × List ℕ). length p.1) (some_is (raw.Fixed a.0, b.0) x b.2) in omega arith

hole_le : (bytes : List ℕ) (x : RawValue × List ℕ) → hole_at bytes ≡ Some x → length x.1 ≤ length bytes
unfolding hole_at
hole_le bytes x h =
    let a = bind_some (name_at class.Word bytes) (λ n. stripped (codes "]") n.1 >>= λ rest. Some (raw.Hole n.0, rest)) x h in
    let b = bind_some (stripped (codes "]") a.0.1) (λ rest. Some (raw.Hole a.0.0, rest)) x a.2 in
    let l = stripped_le (codes "]") a.0.1 b.0 b.1 in
    let m = name_le class.Word bytes a.0 a.1 in
    let e : length b.0 ≡ length x.1 = ap (λ (p : RawValue × List ℕ). length p.1) (some_is (raw.Hole a.0.0, b.0) x b.2) in omega arith

value_le : (bytes : List ℕ) (x : RawValue × List ℕ) → value_at bytes ≡ Some x → length x.1 ≤ length bytes
unfolding value_at
value_le bytes x h =
    elim (where_cases (stripped (codes "\"") bytes) (quoted_at 34) _ (Some x) h) [
      | inl a ↦ omega (arith, stripped_le (codes "\"") bytes a.0 a.1, quoted_le 34 a.0 x a.2)
      | inr n ↦
          elim (where_cases (stripped (codes "'") bytes) (quoted_at 39) _ (Some x) n.1) [
            | inl a ↦ omega (arith, stripped_le (codes "'") bytes a.0 a.1, quoted_le 39 a.0 x a.2)
            | inr m ↦
                elim (where_cases (stripped (codes "[") bytes) hole_at None (Some x) m.1) [
                  | inl a ↦ omega (arith, stripped_le (codes "[") bytes a.0 a.1, hole_le a.0 x a.2)
                  | inr z ↦ absurd (none_is x z.1)
                ]
          ]
    ]
  where
    none_is : (x : RawValue × List ℕ) → None ≡ Some x → ⊥
    none_is x h = cc

abbrev rest_of_attr : List ℕ × List ℕ → Option (RawAttr × List ℕ)
rest_of_attr n = stripped (codes "=") n.1 >>= λ m. value_at m >>= λ v. Some (record { name = n.0; value = v.0 }, v.1)

pub attr_less : (bytes : List ℕ) (x : RawAttr × List ℕ) → attr_at bytes ≡ Some x → length x.1 < length bytes
unfolding attr_at
attr_less bytes x h =
    let g = if_some (begins is_blank bytes) (name_at class.Attr (past_blanks bytes) >>= rest_of_attr) x h in
    let a = bind_some (name_at class.Attr (past_blanks bytes)) rest_of_attr x g.1 in
    let b = bind_some (stripped (codes "=") a.0.1) (λ m. value_at m >>= λ v. Some (record { name = a.0.0; value = v.0 }, v.1)) x a.2 in
    let c = bind_some (value_at b.0) (λ v. Some (record { name = a.0.0; value = v.0 }, v.1)) x b.2 in
    let e : length c.0.1 ≡ length x.1 = ap (λ (p : RawAttr × List ℕ). length p.1) (some_is (record { name = a.0.0; value = c.0.0 }, c.0.1) x c.2) in
    omega (
      arith,
      length-drop (leading is_blank bytes) bytes,
      name_le class.Attr (past_blanks bytes) a.0 a.1,
      stripped_le (codes "=") a.0.1 b.0 b.1,
      value_le b.0 c.0 c.1,
    )

pub attr_shrinks : Shrinks attr_at
attr_shrinks = record { less = attr_less }

tag_le : (bytes : List ℕ) (x : Tag × List ℕ) → tag_at bytes ≡ Some x → length x.1 ≤ length bytes
unfolding tag_at
tag_le bytes x h =
    let a = bind_some (name_at class.Tag bytes) (λ n. Some (record { name = n.0; attrs = (each attr_at n.1).0 }, past_blanks (each attr_at n.1).1)) x h in
    let k = (each attr_at a.0.1).1 in
    let e : length (past_blanks k) ≡ length x.1 =
    ap (λ (p : Tag × List ℕ). length p.1) (some_is (record { name = a.0.0; attrs = (each attr_at a.0.1).0 }, past_blanks k) x a.2) in
    omega (arith, name_le class.Tag bytes a.0 a.1, each_le attr_at attr_shrinks a.0.1, length-drop (leading is_blank k) k)

whole_le : (bytes : List ℕ) (x : Piece × List ℕ) → whole_at bytes ≡ Some x → length x.1 ≤ length bytes
unfolding whole_at
whole_le bytes x h =
    let a =
    bind_some (tag_at bytes) (λ t. where_some (stripped (codes "/>") t.1) (λ rest. Some (piece.Whole t.0, rest))
    (where_some (stripped (codes ">") t.1) (λ rest. Some (piece.Start t.0, rest)) None)) x h in
    let l = tag_le bytes a.0 a.1 in
    elim (where_cases (stripped (codes "/>") a.0.1) (λ rest. Some (piece.Whole a.0.0, rest)) _ (Some x) a.2) [
      | inl b ↦
          let e : length b.0 ≡ length x.1 = ap (λ (p : Piece × List ℕ). length p.1) (some_is (piece.Whole a.0.0, b.0) x b.2) in
          omega (arith, stripped_le (codes "/>") a.0.1 b.0 b.1)
      | inr n ↦
          elim (where_cases (stripped (codes ">") a.0.1) (λ rest. Some (piece.Start a.0.0, rest)) None (Some x) n.1) [
            | inl b ↦
                let e : length b.0 ≡ length x.1 = ap (λ (p : Piece × List ℕ). length p.1) (some_is (piece.Start a.0.0, b.0) x b.2) in
                omega (arith, stripped_le (codes ">") a.0.1 b.0 b.1)
            | inr z ↦ absurd (none_is x z.1)
          ]
    ]
  where
    none_is : (x : Piece × List ℕ) → None ≡ Some x → ⊥
    none_is x h = cc

end_le : (bytes : List ℕ) (x : Piece × List ℕ) → end_at bytes ≡ Some x → length x.1 ≤ length bytes
unfolding end_at
end_le bytes x h =
    let a = bind_some (name_at class.Tag bytes) (λ n. stripped (codes ">") (past_blanks n.1) >>= λ rest. Some (piece.End n.0, rest)) x h in
    let b = bind_some (stripped (codes ">") (past_blanks a.0.1)) (λ rest. Some (piece.End a.0.0, rest)) x a.2 in
    let e : length b.0 ≡ length x.1 = ap (λ (p : Piece × List ℕ). length p.1) (some_is (piece.End a.0.0, b.0) x b.2) in
    omega (arith, name_le class.Tag bytes a.0 a.1, length-drop (leading is_blank a.0.1) a.0.1, stripped_le (codes ">") (past_blanks a.0.1) b.0 b.1)

gap_le : (bytes : List ℕ) (x : Piece × List ℕ) → gap_at bytes ≡ Some x → length x.1 ≤ length bytes
unfolding gap_at
gap_le bytes x h =
    let a = bind_some (name_at class.Word bytes) (λ n. stripped (codes "]>") n.1 >>= λ rest. Some (piece.Gap n.0, rest)) x h in
    let b = bind_some (stripped (codes "]>") a.0.1) (λ rest. Some (piece.Gap a.0.0, rest)) x a.2 in
    let e : length b.0 ≡ length x.1 = ap (λ (p : Piece × List ℕ). length p.1) (some_is (piece.Gap a.0.0, b.0) x b.2) in
    omega (arith, name_le class.Word bytes a.0 a.1, stripped_le (codes "]>") a.0.1 b.0 b.1)

none_left : {A : Type 0} (step : List ℕ → Option (A × List ℕ)) → Shrinks step → (bytes : List ℕ) (o : Option (A × List ℕ)) → step bytes ≡ o
    → (length (each step bytes).0 ≡ 0 → ⊥) → length (each step bytes).1 < length bytes
none_left {A} step s bytes None e some = absurd (some (ap (λ (p : List A × List ℕ). length p.0) (each_none step s bytes e)))
none_left {A} step s bytes (Some x) e some =
    let m : length (each step bytes).1 ≡ length (each step x.1).1 = ap (λ (p : List A × List ℕ). length p.1) (each_more step s bytes x e) in
    omega (arith, s.less bytes x e, each_le step s x.1)

text_less : (bytes : List ℕ) (x : Piece × List ℕ) → text_at bytes ≡ Some x → length x.1 < length bytes
unfolding text_at
text_less bytes x h =
    let t = each (char_at 60) bytes in
    let g = cond_none (length t.0 == 0) (checked t.0 >>= λ v. Some (piece.Text v, t.1)) x h in
    let a = bind_some (checked t.0) (λ v. Some (piece.Text v, t.1)) x g.1 in
    let e : length t.1 ≡ length x.1 = ap (λ (p : Piece × List ℕ). length p.1) (some_is (piece.Text a.0, t.1) x a.2) in
    let some : length t.0 ≡ 0 → ⊥ = λ (z : length t.0 ≡ 0). true_is (sym (ap (λ (n : ℕ). n == 0) z) ∙ g.0) in
    omega (arith, none_left (char_at 60) (char_shrinks 60) bytes (char_at 60 bytes) refl some)
  where
    true_is : true ≡ false → ⊥
    true_is p = cc

pub piece_less : (bytes : List ℕ) (x : Piece × List ℕ) → piece_at bytes ≡ Some x → length x.1 < length bytes
unfolding piece_at
piece_less bytes x h =
    elim (where_cases (stripped (codes "<[") bytes) gap_at _ (Some x) h) [
      | inl a ↦ omega (arith, stripped_le (codes "<[") bytes a.0 a.1, gap_le a.0 x a.2)
      | inr n ↦
          elim (where_cases (stripped (codes "</") bytes) end_at _ (Some x) n.1) [
            | inl a ↦ omega (arith, stripped_le (codes "</") bytes a.0 a.1, end_le a.0 x a.2)
            | inr m ↦
                elim (where_cases (stripped (codes "<") bytes) whole_at (text_at bytes) (Some x) m.1) [
                  | inl a ↦ omega (arith, stripped_le (codes "<") bytes a.0 a.1, whole_le a.0 x a.2)
                  | inr z ↦ text_less bytes x z.1
                ]
          ]
    ]

pub piece_shrinks : Shrinks piece_at
piece_shrinks = record { less = piece_less }
