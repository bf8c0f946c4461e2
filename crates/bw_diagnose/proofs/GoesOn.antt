-- Pieces go on to their end.
use Rattle.std.proofs.Common.{◌≡◌, ◌≢◌, ◌⊎◌, ℕ, ◌+◌, Bool, true, false, not, ◌&&◌, ◌||◌, ◌==◌, List, [], ◌∷◌, ◌++◌, Some, None, refl, ap, sym, ◌∙◌, subst}
use Rattle.std.proofs.Common.{arith, codes, inl, inr}
use Rattle.std.specs.Char.{is_ascii_lowercase}
use Rattle.std.proofs.lemmas.Bool.{ne_eqb}
use Rattle.bw_lang.specs.Text.Bytes.{is_blank}
use Rattle.bw_lang.specs.Template.MarkupNames.{first_of, later_of, begins}
use Rattle.bw_lang.specs.Template.Pieces.{passes, IsNameOf, IsRef, IsChar, Each, IsValue, IsAttr, IsTag, IsPiece, SpellsPieces}
use Rattle.bw_lang.specs.declared.pieces.NameClass.{NameClass}
use Rattle.bw_lang.specs.declared.pieces.NameClass.TheVariants as class
use Rattle.bw_lang.specs.declared.pieces.Piece.{Piece}
use Rattle.bw_lang.specs.declared.pieces.Piece.TheVariants as piece
use Rattle.bw_lang.specs.declared.pieces.RawAttr.{RawAttr}
use Rattle.bw_lang.specs.declared.pieces.RawValue.{RawValue}
use Rattle.bw_lang.specs.declared.pieces.RawValue.TheVariants as raw
use Rattle.bw_lang.specs.declared.pieces.Tag.{Tag}
use Rattle.bw_diagnose.specs.Markup.{opens, only, either, end_goes_on, tag_goes_on, stage_behind, stuck, go_on, stuck_from, stuck_in, PiecesGoOn}
use Rattle.bw_diagnose.specs.declared.markup.Stage.{Stage}
use Rattle.bw_diagnose.specs.declared.markup.Stage.TheVariants as stages

-- ---- from a stage to another over the bytes in front of others

abbrev Goes : Stage → List ℕ → Stage → List ℕ → Type 0
Goes s bytes t behind = (at : ℕ) → (n : ℕ) × (stuck_from s at bytes ≡ stuck_from t n behind)

stay : (s : Stage) (bytes : List ℕ) → Goes s bytes s bytes
stay s bytes at = (at, refl)

go : (s t u : Stage) (a b c : List ℕ) → Goes s a t b → Goes t b u c → Goes s a u c
go s t u a b c f g at = let x = f at in let y = g x.0 in (y.0, x.1 ∙ y.1)

same : (s t : Stage) (a b c : List ℕ) → a ≡ b → Goes s b t c → Goes s a t c
same s t a b c e g = subst (λ x. Goes s x t c) (sym e) g

one : (s t : Stage) (b : ℕ) (r : List ℕ) → stage_behind s b r ≡ Some t → Goes s (b ∷ r) t r
one s t b r e at = (at + 1, ap (λ o. go_on o (stuck s at) (λ next. stuck_from next (at + 1) r)) e)

-- ---- tests of bytes

clash : true ≡ false → ⊥
clash e = cc

front : (x y : Bool) → (x && y) ≡ true → x ≡ true
front true y e = refl
front false y e = cc

back : (x y : Bool) → (x && y) ≡ true → y ≡ true
back true y e = e
back false y e = cc

-- a byte that passes a test is none that fails it
differs : (p : ℕ → Bool) (b k : ℕ) → p b ≡ true → p k ≡ false → b ≢ k
differs p b k e f = λ q. clash (sym e ∙ ap p q ∙ f)

unequal : (p : ℕ → Bool) (b k : ℕ) → p b ≡ true → p k ≡ false → (b == k) ≡ false
unequal p b k e f = ne_eqb b k (differs p b k e f)

not_blank : (p : ℕ → Bool) (b : ℕ) → p b ≡ true → p 32 ≡ false → p 9 ≡ false → p 13 ≡ false → p 10 ≡ false → is_blank b ≡ false
not_blank p b e f g h i =
    let x = unequal p b 32 e f in let y = unequal p b 9 e g in let z = unequal p b 13 e h in let w = unequal p b 10 e i in rw (x, y, z, w) refl

-- a blank fails a test that each blank fails
blank_fails : (p : ℕ → Bool) (b : ℕ) → is_blank b ≡ true → p 32 ≡ false → p 9 ≡ false → p 13 ≡ false → p 10 ≡ false → p b ≡ false
blank_fails p b e f g h i = by_test (p b) refl
  where
    by_test : (x : Bool) → p b ≡ x → p b ≡ false
    by_test true t = absurd (clash (sym e ∙ not_blank p b t f g h i))
    by_test false t = t

-- ---- names and blanks

run : (s : Stage) (p : ℕ → Bool) → ((b : ℕ) (r : List ℕ) → p b ≡ true → stage_behind s b r ≡ Some s) → (w r : List ℕ) → passes p w ≡ true
    → Goes s (w ++ r) s r
run s p f [] r e = stay s r
run s p f (b ∷ w) r e =
    go s s s (b ∷ (w ++ r)) (w ++ r) r (one s s b (w ++ r) (f b (w ++ r) (front (p b) (passes p w) e))) (run s p f w r (back (p b) (passes p w) e))

over_name : (s t : Stage) (k : NameClass) → ((b : ℕ) (r : List ℕ) → first_of k b ≡ true → stage_behind s b r ≡ Some t)
    → ((b : ℕ) (r : List ℕ) → later_of k b ≡ true → stage_behind t b r ≡ Some t) → (w r : List ℕ) → IsNameOf k w → Goes s (w ++ r) t r
over_name s t k f g [] r n = absurd (clash (sym n.first))
over_name s t k f g (b ∷ w) r n =
    go s t t (b ∷ (w ++ r)) (w ++ r) r (one s t b (w ++ r) (f b (w ++ r) n.first)) (run t (later_of k) g w r
    (back (later_of k b) (passes (later_of k) w) n.later))

gap_name : (w r : List ℕ) → IsNameOf class.Word w → Goes stages.Gap (w ++ r) stages.GapName r
gap_name = over_name stages.Gap stages.GapName class.Word (λ b r e. ap (λ c. only c stages.GapName) e)
    (λ b r e. ap (λ c. either c stages.GapName (only (b == 93) stages.GapEnd)) e)

hole_name : (w r : List ℕ) → IsNameOf class.Word w → Goes stages.Hole (w ++ r) stages.HoleName r
hole_name = over_name stages.Hole stages.HoleName class.Word (λ b r e. ap (λ c. only c stages.HoleName) e)
    (λ b r e. ap (λ c. either c stages.HoleName (only (b == 93) stages.ValueEnd)) e)

end_name : (w r : List ℕ) → IsNameOf class.Tag w → Goes stages.EndTag (w ++ r) stages.EndName r
end_name = over_name stages.EndTag stages.EndName class.Tag (λ b r e. ap (λ c. only c stages.EndName) e)
    (λ b r e. ap (λ c. either c stages.EndName (end_goes_on b)) e)

attr_name : (w r : List ℕ) → IsNameOf class.Attr w → Goes stages.TagBlank (w ++ r) stages.AttrName r
attr_name = over_name stages.TagBlank stages.AttrName class.Attr (λ b r e. ap (λ c. either c stages.AttrName (tag_goes_on b)) e)
    (λ b r e. ap (λ c. either c stages.AttrName (only (b == 61) stages.Equals)) e)

begins_name : (b : ℕ) (r : List ℕ) → is_ascii_lowercase b ≡ true → stage_behind stages.Less b r ≡ Some stages.TagName
begins_name b r e =
    ap (λ c. either c stages.Gap (either (b == 47) stages.EndTag (only (is_ascii_lowercase b) stages.TagName))) (unequal is_ascii_lowercase b 91 e refl)
    ∙ ap (λ c. either c stages.EndTag (only (is_ascii_lowercase b) stages.TagName)) (unequal is_ascii_lowercase b 47 e refl)
    ∙ ap (λ c. only c stages.TagName) e

tag_name : (w r : List ℕ) → IsNameOf class.Tag w → Goes stages.Less (w ++ r) stages.TagName r
tag_name = over_name stages.Less stages.TagName class.Tag begins_name (λ b r e. ap (λ c. either c stages.TagName (tag_goes_on b)) e)

-- a stage in a tag behind a name, a value or blanks
record Ends (s : Stage) : Type 0 where
  blank : (b : ℕ) (r : List ℕ) → is_blank b ≡ true → stage_behind s b r ≡ Some stages.TagBlank
  close : (r : List ℕ) → stage_behind s 62 r ≡ Some stages.Text
  slash : (r : List ℕ) → stage_behind s 47 r ≡ Some stages.Slash

blank_goes_on : (b : ℕ) → is_blank b ≡ true → tag_goes_on b ≡ Some stages.TagBlank
blank_goes_on b e = ap (λ c. either c stages.TagBlank (either (b == 62) stages.Text (only (b == 47) stages.Slash))) e

name_ends : Ends stages.TagName
name_ends = record {
  blank = λ b r e. ap (λ c. either c stages.TagName (tag_goes_on b)) (blank_fails (later_of class.Tag) b e refl refl refl refl) ∙ blank_goes_on b e;
  close = λ r. refl;
  slash = λ r. refl;
}

blank_ends : Ends stages.TagBlank
blank_ends = record {
  blank = λ b r e. ap (λ c. either c stages.AttrName (tag_goes_on b)) (blank_fails is_ascii_lowercase b e refl refl refl refl) ∙ blank_goes_on b e;
  close = λ r. refl;
  slash = λ r. refl;
}

value_ends : Ends stages.ValueEnd
value_ends = record { blank = λ b r e. blank_goes_on b e; close = λ r. refl; slash = λ r. refl }

some_blanks : (s : Stage) → Ends s → (w r : List ℕ) → begins is_blank w ≡ true → passes is_blank w ≡ true → Goes s (w ++ r) stages.TagBlank r
some_blanks s h [] r some all = absurd (clash (sym some))
some_blanks s h (b ∷ w) r some all =
    go s stages.TagBlank stages.TagBlank (b ∷ (w ++ r)) (w ++ r) r (one s stages.TagBlank b (w ++ r) (h.blank b (w ++ r) some))
    (run stages.TagBlank is_blank (λ c q e. blank_ends.blank c q e) w r (back (is_blank b) (passes is_blank w) all))

-- ---- characters

-- a stage in which characters stand in front of this byte
record Chars (s : Stage) (stop : ℕ) : Type 0 where
  char : (c : ℕ) (r : List ℕ) → c ≢ 38 → c ≢ 60 → c ≢ stop → stage_behind s c r ≡ Some s
  ref_byte : (b : ℕ) → (is_ascii_lowercase b || b == 59) ≡ true → b ≢ stop
  amp : (r : List ℕ) → stage_behind s 38 (codes "amp;" ++ r) ≡ Some s
  lt : (r : List ℕ) → stage_behind s 38 (codes "lt;" ++ r) ≡ Some s
  gt : (r : List ℕ) → stage_behind s 38 (codes "gt;" ++ r) ≡ Some s
  quot : (r : List ℕ) → stage_behind s 38 (codes "quot;" ++ r) ≡ Some s

abbrev is_ref_byte : ℕ → Bool
is_ref_byte b = is_ascii_lowercase b || b == 59

ref_bytes : (s : Stage) (stop : ℕ) → Chars s stop → (w r : List ℕ) → passes is_ref_byte w ≡ true → Goes s (w ++ r) s r
ref_bytes s stop h = run s is_ref_byte (λ b r e. h.char b r (differs is_ref_byte b 38 e refl) (differs is_ref_byte b 60 e refl) (h.ref_byte b e))

over_reference : (s : Stage) (stop c : ℕ) (w r : List ℕ) → Chars s stop → IsRef c w → Goes s (w ++ r) s r
over_reference s stop c w r h (inl e) = same s s _ (codes "&amp;" ++ r) r (ap (λ x. x ++ r) e.1)
    (go s s s (38 ∷ (codes "amp;" ++ r)) (codes "amp;" ++ r) r (one s s 38 (codes "amp;" ++ r) (h.amp r)) (ref_bytes s stop h (codes "amp;") r refl))
over_reference s stop c w r h (inr (inl e)) = same s s _ (codes "&lt;" ++ r) r (ap (λ x. x ++ r) e.1)
    (go s s s (38 ∷ (codes "lt;" ++ r)) (codes "lt;" ++ r) r (one s s 38 (codes "lt;" ++ r) (h.lt r)) (ref_bytes s stop h (codes "lt;") r refl))
over_reference s stop c w r h (inr (inr (inl e))) = same s s _ (codes "&gt;" ++ r) r (ap (λ x. x ++ r) e.1)
    (go s s s (38 ∷ (codes "gt;" ++ r)) (codes "gt;" ++ r) r (one s s 38 (codes "gt;" ++ r) (h.gt r)) (ref_bytes s stop h (codes "gt;") r refl))
over_reference s stop c w r h (inr (inr (inr e))) = same s s _ (codes "&quot;" ++ r) r (ap (λ x. x ++ r) e.1)
    (go s s s (38 ∷ (codes "quot;" ++ r)) (codes "quot;" ++ r) r (one s s 38 (codes "quot;" ++ r) (h.quot r)) (ref_bytes s stop h (codes "quot;") r refl))

over_char : (s : Stage) (stop c : ℕ) (bytes r : List ℕ) → Chars s stop → IsChar stop c bytes r → Goes s bytes s r
over_char s stop c bytes r h (inl (e, a, l, n)) = same s s bytes (c ∷ r) r e (one s s c r (h.char c r a l n))
over_char s stop c bytes r h (inr (w, f, e)) = same s s bytes (w ++ r) r e (over_reference s stop c w r h f)

over_chars : (s : Stage) (stop : ℕ) (cs bytes r : List ℕ) → Chars s stop → Each (IsChar stop) cs bytes r → Goes s bytes s r
over_chars s stop [] bytes r h e = same s s bytes r r e (stay s r)
over_chars s stop (c ∷ cs) bytes r h (mid, x, y) = go s s s bytes mid r (over_char s stop c bytes mid h x) (over_chars s stop cs mid r h y)

text_chars : Chars stages.Text 60
text_chars = record {
  char = λ c r a l n. let x = ne_eqb c 38 a in let y = ne_eqb c 60 l in rw (x, y) refl;
  ref_byte = λ b e. differs is_ref_byte b 60 e refl;
  amp = λ r. refl;
  lt = λ r. refl;
  gt = λ r. refl;
  quot = λ r. refl;
}

value_char : (q c : ℕ) (r : List ℕ) → c ≢ 38 → c ≢ 60 → c ≢ q → stage_behind (stages.Value q) c r ≡ Some (stages.Value q)
value_char q c r a l n = let x = ne_eqb c 38 a in let y = ne_eqb c 60 l in let z = ne_eqb c q n in rw (z, x, y) refl

double_chars : Chars (stages.Value 34) 34
double_chars = record {
  char = λ c r a l n. value_char 34 c r a l n;
  ref_byte = λ b e. differs is_ref_byte b 34 e refl;
  amp = λ r. refl;
  lt = λ r. refl;
  gt = λ r. refl;
  quot = λ r. refl;
}

single_chars : Chars (stages.Value 39) 39
single_chars = record {
  char = λ c r a l n. value_char 39 c r a l n;
  ref_byte = λ b e. differs is_ref_byte b 39 e refl;
  amp = λ r. refl;
  lt = λ r. refl;
  gt = λ r. refl;
  quot = λ r. refl;
}

-- ---- attributes and tags

over_fixed : (q : ℕ) (v u r : List ℕ) → (q ≡ 34) ⊎ (q ≡ 39) → Each (IsChar q) v u (q ∷ r) → Goes stages.Equals (q ∷ u) stages.ValueEnd r
over_fixed q v u r (inl e) cs = subst (λ x. Goes stages.Equals (x ∷ u) stages.ValueEnd r) (sym e) (closed (subst (λ x. Each (IsChar x) v u (x ∷ r)) e cs))
  where
    closed : Each (IsChar 34) v u (34 ∷ r) → Goes stages.Equals (34 ∷ u) stages.ValueEnd r
    closed c = go stages.Equals (stages.Value 34) stages.ValueEnd (34 ∷ u) u r (one stages.Equals (stages.Value 34) 34 u refl)
        (go (stages.Value 34) (stages.Value 34) stages.ValueEnd u (34 ∷ r) r (over_chars (stages.Value 34) 34 v u (34 ∷ r) double_chars c)
        (one (stages.Value 34) stages.ValueEnd 34 r refl))
over_fixed q v u r (inr e) cs = subst (λ x. Goes stages.Equals (x ∷ u) stages.ValueEnd r) (sym e) (closed (subst (λ x. Each (IsChar x) v u (x ∷ r)) e cs))
  where
    closed : Each (IsChar 39) v u (39 ∷ r) → Goes stages.Equals (39 ∷ u) stages.ValueEnd r
    closed c = go stages.Equals (stages.Value 39) stages.ValueEnd (39 ∷ u) u r (one stages.Equals (stages.Value 39) 39 u refl)
        (go (stages.Value 39) (stages.Value 39) stages.ValueEnd u (39 ∷ r) r (over_chars (stages.Value 39) 39 v u (39 ∷ r) single_chars c)
        (one (stages.Value 39) stages.ValueEnd 39 r refl))

over_value : (v : RawValue) (bytes r : List ℕ) → IsValue v bytes r → Goes stages.Equals bytes stages.ValueEnd r
over_value (raw.Fixed v) bytes r (q, which, u, e, cs, t) = same stages.Equals stages.ValueEnd bytes (q ∷ u) r e (over_fixed q v u r which cs)
over_value (raw.Hole w) bytes r (n, e) = same stages.Equals stages.ValueEnd bytes (91 ∷ (w ++ 93 ∷ r)) r e
    (go stages.Equals stages.Hole stages.ValueEnd (91 ∷ (w ++ 93 ∷ r)) (w ++ 93 ∷ r) r (one stages.Equals stages.Hole 91 (w ++ 93 ∷ r) refl)
    (go stages.Hole stages.HoleName stages.ValueEnd (w ++ 93 ∷ r) (93 ∷ r) r (hole_name w (93 ∷ r) n) (one stages.HoleName stages.ValueEnd 93 r refl)))

over_attr : (s : Stage) (a : RawAttr) (bytes r : List ℕ) → Ends s → IsAttr a bytes r → Goes s bytes stages.ValueEnd r
over_attr s a bytes r ends h = same s stages.ValueEnd bytes (h.blanks ++ (a.name ++ 61 ∷ h.behind)) r h.parts
    (go s stages.TagBlank stages.ValueEnd (h.blanks ++ (a.name ++ 61 ∷ h.behind)) (a.name ++ 61 ∷ h.behind) r
    (some_blanks s ends h.blanks (a.name ++ 61 ∷ h.behind) h.some_blank h.all_blank)
    (go stages.TagBlank stages.AttrName stages.ValueEnd (a.name ++ 61 ∷ h.behind) (61 ∷ h.behind) r (attr_name a.name (61 ∷ h.behind) h.name)
    (go stages.AttrName stages.Equals stages.ValueEnd (61 ∷ h.behind) h.behind r (one stages.AttrName stages.Equals 61 h.behind refl)
    (over_value a.value h.behind r h.value))))

-- a stage in which a tag may end, and the way there
abbrev Reaches : Stage → List ℕ → List ℕ → Type 0
Reaches s bytes r = (t : Stage) × Ends t × Goes s bytes t r

over_attrs : (s : Stage) (xs : List RawAttr) (bytes r : List ℕ) → Ends s → Each IsAttr xs bytes r → Reaches s bytes r
over_attrs s [] bytes r ends e = (s, ends, same s s bytes r r e (stay s r))
over_attrs s (a ∷ xs) bytes r ends (mid, x, y) =
    let more = over_attrs stages.ValueEnd xs mid r value_ends y in
    (more.0, more.1, go s stages.ValueEnd more.0 bytes mid r (over_attr s a bytes mid ends x) more.2)

any_blanks : (s : Stage) (w r : List ℕ) → Ends s → passes is_blank w ≡ true → Reaches s (w ++ r) r
any_blanks s [] r ends e = (s, ends, stay s r)
any_blanks s (b ∷ w) r ends e = (stages.TagBlank, blank_ends, some_blanks s ends (b ∷ w) r (front (is_blank b) (passes is_blank w) e) e)

over_tag : (t : Tag) (bytes r : List ℕ) → IsTag t bytes r → Reaches stages.Less bytes r
over_tag t bytes r h =
    let attrs = over_attrs stages.TagName t.attrs h.behind h.after_attrs name_ends h.attrs in
    let rest = any_blanks attrs.0 h.blanks r attrs.1 h.all_blank in (
      rest.0,
      rest.1,
      same stages.Less rest.0 bytes (t.name ++ h.behind) r h.parts
          (go stages.Less stages.TagName rest.0 (t.name ++ h.behind) h.behind r (tag_name t.name h.behind h.name)
          (go stages.TagName attrs.0 rest.0 h.behind h.after_attrs r attrs.2
          (same attrs.0 rest.0 h.after_attrs (h.blanks ++ r) r h.end rest.2))),
    )

-- ---- pieces

either_true : (x y : Bool) → (x || (y || true)) ≡ true
either_true true y = refl
either_true false true = refl
either_true false false = refl

opens_tag : (t : Tag) (m r : List ℕ) → IsTag t m r → begins opens m ≡ true
opens_tag t m r h = subst (λ l. begins opens l ≡ true) (sym h.parts) (named t.name h.behind h.name.first)
  where
    named : (w more : List ℕ) → begins is_ascii_lowercase w ≡ true → begins opens (w ++ more) ≡ true
    named [] more e = absurd (clash (sym e))
    named (b ∷ w) more e = ap (λ c. b == 91 || (b == 47 || c)) e ∙ either_true (b == 91) (b == 47)

less_first : (t : Tag) (m r : List ℕ) → IsTag t m r → Goes stages.Text (60 ∷ m) stages.Less m
less_first t m r h = one stages.Text stages.Less 60 m (ap (λ c. only c stages.Less) (opens_tag t m r h))

over_end : (w mid : List ℕ) → passes is_blank w ≡ true → Goes stages.EndName (w ++ 62 ∷ mid) stages.Text mid
over_end [] mid e = one stages.EndName stages.Text 62 mid refl
over_end (b ∷ w) mid e =
    go stages.EndName stages.EndBlank stages.Text (b ∷ (w ++ 62 ∷ mid)) (w ++ 62 ∷ mid) mid (one stages.EndName stages.EndBlank b (w ++ 62 ∷ mid) (named b
    (front (is_blank b) (passes is_blank w) e)))
    (go stages.EndBlank stages.EndBlank stages.Text (w ++ 62 ∷ mid) (62 ∷ mid) mid (run stages.EndBlank is_blank (λ c r f. blank c f) w (62 ∷ mid)
    (back (is_blank b) (passes is_blank w) e)) (one stages.EndBlank stages.Text 62 mid refl))
  where
    blank : (c : ℕ) → is_blank c ≡ true → end_goes_on c ≡ Some stages.EndBlank
    blank c f = ap (λ x. either x stages.EndBlank (only (c == 62) stages.Text)) f

    named : (c : ℕ) → is_blank c ≡ true → either (later_of class.Tag c) stages.EndName (end_goes_on c) ≡ Some stages.EndBlank
    named c f = ap (λ x. either x stages.EndName (end_goes_on c)) (blank_fails (later_of class.Tag) c f refl refl refl refl) ∙ blank c f

over_piece : (p : Piece) (bytes mid : List ℕ) → IsPiece p bytes mid → Goes stages.Text bytes stages.Text mid
over_piece (piece.Text s) bytes mid (ne, u, cs) = over_chars stages.Text 60 s bytes mid text_chars cs
over_piece (piece.Gap w) bytes mid (name, e) =
    let c = 93 ∷ 62 ∷ mid in let b = w ++ c in let a = 91 ∷ b in
    same stages.Text stages.Text bytes (60 ∷ a) mid e
    (go stages.Text stages.Less stages.Text (60 ∷ a) a mid (one stages.Text stages.Less 60 a refl)
    (go stages.Less stages.Gap stages.Text a b mid (one stages.Less stages.Gap 91 b refl)
    (go stages.Gap stages.GapName stages.Text b c mid (gap_name w c name)
    (go stages.GapName stages.GapEnd stages.Text c (62 ∷ mid) mid (one stages.GapName stages.GapEnd 93 (62 ∷ mid) refl)
    (one stages.GapEnd stages.Text 62 mid refl)))))
over_piece (piece.Start t) bytes mid (m, e, h) =
    let tag = over_tag t m (62 ∷ mid) h in
    same stages.Text stages.Text bytes (60 ∷ m) mid e
    (go stages.Text stages.Less stages.Text (60 ∷ m) m mid (less_first t m (62 ∷ mid) h)
    (go stages.Less tag.0 stages.Text m (62 ∷ mid) mid tag.2 (one tag.0 stages.Text 62 mid (tag.1.close mid))))
over_piece (piece.Whole t) bytes mid (m, e, h) =
    let tag = over_tag t m (47 ∷ 62 ∷ mid) h in
    same stages.Text stages.Text bytes (60 ∷ m) mid e
    (go stages.Text stages.Less stages.Text (60 ∷ m) m mid (less_first t m (47 ∷ 62 ∷ mid) h)
    (go stages.Less tag.0 stages.Text m (47 ∷ 62 ∷ mid) mid tag.2
    (go tag.0 stages.Slash stages.Text (47 ∷ 62 ∷ mid) (62 ∷ mid) mid (one tag.0 stages.Slash 47 (62 ∷ mid) (tag.1.slash (62 ∷ mid)))
    (one stages.Slash stages.Text 62 mid refl))))
over_piece (piece.End w) bytes mid (name, blanks, all, e) =
    let c = blanks ++ (62 ∷ mid) in let b = w ++ c in let a = 47 ∷ b in
    same stages.Text stages.Text bytes (60 ∷ a) mid e
    (go stages.Text stages.Less stages.Text (60 ∷ a) a mid (one stages.Text stages.Less 60 a refl)
    (go stages.Less stages.EndTag stages.Text a b mid (one stages.Less stages.EndTag 47 b refl)
    (go stages.EndTag stages.EndName stages.Text b c mid (end_name w c name) (over_end blanks mid all))))

over_pieces : (ps : List Piece) (bytes : List ℕ) → Each IsPiece ps bytes [] → Goes stages.Text bytes stages.Text []
over_pieces [] bytes e = same stages.Text stages.Text bytes [] [] e (stay stages.Text [])
over_pieces (p ∷ ps) bytes (mid, x, y) = go stages.Text stages.Text stages.Text bytes mid [] (over_piece p bytes mid x) (over_pieces ps mid y)

pub pieces_go_on : PiecesGoOn
pieces_go_on ps bytes h = (over_pieces ps bytes h.pieces 0).1
