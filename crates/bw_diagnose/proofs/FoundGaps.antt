-- The gaps that are found among bytes are those of the pieces that they are.
use Rattle.std.proofs.Common.{◌≡◌, ◌≢◌, ◌⊎◌, ℕ, suc, ◌+◌, Bool, true, false, not, ◌&&◌, ◌||◌, ◌==◌, if◌then◌else◌, List, [], ◌∷◌, ◌++◌}
use Rattle.std.proofs.Common.{length, take, refl, ap, sym, ◌∙◌, subst, codes, inl, inr, append_assoc}
use Rattle.std.specs.Char.{is_ascii_alphanumeric, is_ascii_lowercase}
use Rattle.std.proofs.lemmas.List.{append-nil}
use Rattle.std.proofs.lemmas.Bool.{ne_eqb, eq-eqb}
use Rattle.bw_lang.specs.Text.Bytes.{is_blank}
use Rattle.bw_lang.specs.Template.MarkupNames.{first_of, later_of, begins}
use Rattle.bw_lang.specs.Template.PieceGaps.{value_gaps, attr_gaps, piece_gaps, gap_names}
use Rattle.bw_lang.specs.Template.Pieces.{passes, IsNameOf, IsRef, IsChar, Each, IsValue, IsAttr, IsTag, IsPiece, SpellsPieces}
use Rattle.bw_lang.specs.declared.pieces.NameClass.{NameClass}
use Rattle.bw_lang.specs.declared.pieces.NameClass.TheVariants as class
use Rattle.bw_lang.specs.declared.pieces.Piece.{Piece}
use Rattle.bw_lang.specs.declared.pieces.Piece.TheVariants as piece
use Rattle.bw_lang.specs.declared.pieces.RawAttr.{RawAttr}
use Rattle.bw_lang.specs.declared.pieces.RawValue.{RawValue}
use Rattle.bw_lang.specs.declared.pieces.RawValue.TheVariants as raw
use Rattle.bw_lang.specs.declared.pieces.Tag.{Tag}
use Rattle.bw_diagnose.specs.Gaps.{part_behind, opens_gap, gap_there, gaps_in, GapsAreFound}
use Rattle.bw_diagnose.specs.Places.{word_length}
use Rattle.bw_diagnose.specs.declared.gaps.Part.{Part}
use Rattle.bw_diagnose.specs.declared.gaps.Part.TheVariants as parts

-- from a part to another over the bytes in front of others, with these gaps on the way
abbrev Finds : Part → List ℕ → List (List ℕ) → Part → List ℕ → Type 0
Finds s bytes names t behind = gaps_in s bytes ≡ names ++ gaps_in t behind

go : (s t u : Part) (a b c : List ℕ) (ns ms : List (List ℕ)) → Finds s a ns t b → Finds t b ms u c → Finds s a (ns ++ ms) u c
go s t u a b c ns ms e f = e ∙ ap (λ l. ns ++ l) f ∙ sym (append_assoc ns ms (gaps_in u c))

same : (s t : Part) (a b c : List ℕ) (ns : List (List ℕ)) → a ≡ b → Finds s b ns t c → Finds s a ns t c
same s t a b c ns e f = subst (λ x. Finds s x ns t c) (sym e) f

one : (s t : Part) (b : ℕ) (r : List ℕ) → opens_gap s b ≡ false → part_behind s b ≡ t → Finds s (b ∷ r) [] t r
one s t b r e f =
    ap (λ (c : Bool). (if c then take (word_length r) r ∷ [] else []) ++ gaps_in (part_behind s b) r) e ∙ ap (λ p. gaps_in p r) f

clash : true ≡ false → ⊥
clash e = cc

front : (x y : Bool) → (x && y) ≡ true → x ≡ true
front true y e = refl
front false y e = cc

back : (x y : Bool) → (x && y) ≡ true → y ≡ true
back true y e = e
back false y e = cc

unequal : (p : ℕ → Bool) (b k : ℕ) → p b ≡ true → p k ≡ false → (b == k) ≡ false
unequal p b k e f = ne_eqb b k (λ q. clash (sym e ∙ ap p q ∙ f))

run : (s : Part) (p : ℕ → Bool) → ((b : ℕ) → p b ≡ true → opens_gap s b ≡ false) → ((b : ℕ) → p b ≡ true → part_behind s b ≡ s) → (w r : List ℕ)
    → passes p w ≡ true → Finds s (w ++ r) [] s r
run s p f g [] r e = refl
run s p f g (b ∷ w) r e =
    go s s s (b ∷ (w ++ r)) (w ++ r) r [] [] (one s s b (w ++ r) (f b (front (p b) (passes p w) e)) (g b (front (p b) (passes p w) e)))
    (run s p f g w r (back (p b) (passes p w) e))

-- bytes in a tag that end nothing and begin nothing
tag_goes_on : (p : ℕ → Bool) (b : ℕ) → p b ≡ true → p 62 ≡ false → p 34 ≡ false → p 39 ≡ false → part_behind parts.Tag b ≡ parts.Tag
tag_goes_on p b e f g h = let x = unequal p b 62 e f in let y = unequal p b 34 e g in let z = unequal p b 39 e h in rw (x, y, z) refl

in_tag : (p : ℕ → Bool) → p 62 ≡ false → p 34 ≡ false → p 39 ≡ false → p 91 ≡ false → (w r : List ℕ) → passes p w ≡ true
    → Finds parts.Tag (w ++ r) [] parts.Tag r
in_tag p f g h i = run parts.Tag p (λ b e. unequal p b 91 e i) (λ b e. tag_goes_on p b e f g h)

tag_name : (w r : List ℕ) → IsNameOf class.Tag w → Finds parts.Tag (w ++ r) [] parts.Tag r
tag_name w r n = in_tag (later_of class.Tag) refl refl refl refl w r n.later

attr_name : (w r : List ℕ) → IsNameOf class.Attr w → Finds parts.Tag (w ++ r) [] parts.Tag r
attr_name w r n = in_tag (later_of class.Attr) refl refl refl refl w r n.later

word : (w r : List ℕ) → IsNameOf class.Word w → Finds parts.Tag (w ++ r) [] parts.Tag r
word w r n = in_tag (later_of class.Word) refl refl refl refl w r n.later

blanks : (w r : List ℕ) → passes is_blank w ≡ true → Finds parts.Tag (w ++ r) [] parts.Tag r
blanks = in_tag is_blank refl refl refl refl

-- a gap, behind its bracket
word_ends : (w r : List ℕ) → passes (later_of class.Word) w ≡ true → word_length (w ++ 93 ∷ r) ≡ length w
word_ends [] r e = refl
word_ends (b ∷ w) r e =
    ap (λ (c : Bool). if c then suc (word_length (w ++ 93 ∷ r)) else 0) (front (later_of class.Word b) (passes (later_of class.Word) w) e)
    ∙ ap suc (word_ends w r (back (later_of class.Word b) (passes (later_of class.Word) w) e))

taken : (w r : List ℕ) → take (length w) (w ++ r) ≡ w
taken [] r = refl
taken (b ∷ w) r = ap (λ l. b ∷ l) (taken w r)

named : (w r : List ℕ) → IsNameOf class.Word w → take (word_length (w ++ 93 ∷ r)) (w ++ 93 ∷ r) ≡ w
named w r n = ap (λ k. take k (w ++ 93 ∷ r)) (word_ends w r n.later) ∙ taken w (93 ∷ r)

over_gap : (w r : List ℕ) → IsNameOf class.Word w → Finds parts.Tag (91 ∷ (w ++ 93 ∷ r)) (w ∷ []) parts.Tag r
over_gap w r n =
    ap (λ x. (x ∷ []) ++ gaps_in parts.Tag (w ++ 93 ∷ r)) (named w r n)
    ∙ ap (λ l. (w ∷ []) ++ l) (go parts.Tag parts.Tag parts.Tag (w ++ 93 ∷ r) (93 ∷ r) r [] [] (word w (93 ∷ r) n) (one parts.Tag parts.Tag 93 r refl refl))

-- ---- characters

-- a part in which characters stand in front of this byte
record Chars (s : Part) (stop : ℕ) : Type 0 where
  quiet : (c : ℕ) → opens_gap s c ≡ false
  char : (c : ℕ) → c ≢ 60 → c ≢ stop → part_behind s c ≡ s
  amp : passes (λ b. not (b == 60 || b == stop)) (codes "&amp;") ≡ true
  lt : passes (λ b. not (b == 60 || b == stop)) (codes "&lt;") ≡ true
  gt : passes (λ b. not (b == 60 || b == stop)) (codes "&gt;") ≡ true
  quot : passes (λ b. not (b == 60 || b == stop)) (codes "&quot;") ≡ true

not_first : (x y : Bool) → not (x || y) ≡ true → x ≡ false
not_first true y e = cc
not_first false y e = refl

not_second : (x y : Bool) → not (x || y) ≡ true → y ≡ false
not_second true y e = cc
not_second false true e = cc
not_second false false e = refl

unlike : (b k : ℕ) → (b == k) ≡ false → b ≢ k
unlike b k e = λ q. clash (sym (ap (λ x. x == k) q ∙ eq-eqb k k refl) ∙ e)

ref_bytes : (s : Part) (stop : ℕ) → Chars s stop → (w r : List ℕ) → passes (λ b. not (b == 60 || b == stop)) w ≡ true → Finds s (w ++ r) [] s r
ref_bytes s stop h = run s (λ b. not (b == 60 || b == stop)) (λ b e. h.quiet b)
    (λ b e. h.char b (unlike b 60 (not_first (b == 60) (b == stop) e)) (unlike b stop (not_second (b == 60) (b == stop) e)))

over_reference : (s : Part) (stop c : ℕ) (w r : List ℕ) → Chars s stop → IsRef c w → Finds s (w ++ r) [] s r
over_reference s stop c w r h (inl e) = same s s _ (codes "&amp;" ++ r) r [] (ap (λ x. x ++ r) e.1) (ref_bytes s stop h (codes "&amp;") r h.amp)
over_reference s stop c w r h (inr (inl e)) = same s s _ (codes "&lt;" ++ r) r [] (ap (λ x. x ++ r) e.1) (ref_bytes s stop h (codes "&lt;") r h.lt)
over_reference s stop c w r h (inr (inr (inl e))) = same s s _ (codes "&gt;" ++ r) r [] (ap (λ x. x ++ r) e.1) (ref_bytes s stop h (codes "&gt;") r h.gt)
over_reference s stop c w r h (inr (inr (inr e))) = same s s _ (codes "&quot;" ++ r) r [] (ap (λ x. x ++ r) e.1)
    (ref_bytes s stop h (codes "&quot;") r h.quot)

over_char : (s : Part) (stop c : ℕ) (bytes r : List ℕ) → Chars s stop → IsChar stop c bytes r → Finds s bytes [] s r
over_char s stop c bytes r h (inl (e, a, l, n)) = same s s bytes (c ∷ r) r [] e (one s s c r (h.quiet c) (h.char c l n))
over_char s stop c bytes r h (inr (w, f, e)) = same s s bytes (w ++ r) r [] e (over_reference s stop c w r h f)

over_chars : (s : Part) (stop : ℕ) (cs bytes r : List ℕ) → Chars s stop → Each (IsChar stop) cs bytes r → Finds s bytes [] s r
over_chars s stop [] bytes r h e = ap (gaps_in s) e
over_chars s stop (c ∷ cs) bytes r h (mid, x, y) = go s s s bytes mid r [] [] (over_char s stop c bytes mid h x) (over_chars s stop cs mid r h y)

text_chars : Chars parts.Outside 60
text_chars = record {
  quiet = λ c. refl;
  char = λ c l n. let x = ne_eqb c 60 l in rw x refl;
  amp = refl;
  lt = refl;
  gt = refl;
  quot = refl;
}

value_char : (q c : ℕ) → c ≢ q → part_behind (parts.Quoted q) c ≡ parts.Quoted q
value_char q c n = let x = ne_eqb c q n in rw x refl

double_chars : Chars (parts.Quoted 34) 34
double_chars = record { quiet = λ c. refl; char = λ c l n. value_char 34 c n; amp = refl; lt = refl; gt = refl; quot = refl }

single_chars : Chars (parts.Quoted 39) 39
single_chars = record { quiet = λ c. refl; char = λ c l n. value_char 39 c n; amp = refl; lt = refl; gt = refl; quot = refl }

-- ---- attributes and tags

over_fixed : (q : ℕ) (v u r : List ℕ) → (q ≡ 34) ⊎ (q ≡ 39) → Each (IsChar q) v u (q ∷ r) → Finds parts.Tag (q ∷ u) [] parts.Tag r
over_fixed q v u r (inl e) cs = subst (λ x. Finds parts.Tag (x ∷ u) [] parts.Tag r) (sym e) (closed (subst (λ x. Each (IsChar x) v u (x ∷ r)) e cs))
  where
    closed : Each (IsChar 34) v u (34 ∷ r) → Finds parts.Tag (34 ∷ u) [] parts.Tag r
    closed c = go parts.Tag (parts.Quoted 34) parts.Tag (34 ∷ u) u r [] [] (one parts.Tag (parts.Quoted 34) 34 u refl refl)
        (go (parts.Quoted 34) (parts.Quoted 34) parts.Tag u (34 ∷ r) r [] [] (over_chars (parts.Quoted 34) 34 v u (34 ∷ r) double_chars c)
        (one (parts.Quoted 34) parts.Tag 34 r refl refl))
over_fixed q v u r (inr e) cs = subst (λ x. Finds parts.Tag (x ∷ u) [] parts.Tag r) (sym e) (closed (subst (λ x. Each (IsChar x) v u (x ∷ r)) e cs))
  where
    closed : Each (IsChar 39) v u (39 ∷ r) → Finds parts.Tag (39 ∷ u) [] parts.Tag r
    closed c = go parts.Tag (parts.Quoted 39) parts.Tag (39 ∷ u) u r [] [] (one parts.Tag (parts.Quoted 39) 39 u refl refl)
        (go (parts.Quoted 39) (parts.Quoted 39) parts.Tag u (39 ∷ r) r [] [] (over_chars (parts.Quoted 39) 39 v u (39 ∷ r) single_chars c)
        (one (parts.Quoted 39) parts.Tag 39 r refl refl))

over_value : (v : RawValue) (bytes r : List ℕ) → IsValue v bytes r → Finds parts.Tag bytes (value_gaps v) parts.Tag r
over_value (raw.Fixed v) bytes r (q, which, u, e, cs, t) = same parts.Tag parts.Tag bytes (q ∷ u) r [] e (over_fixed q v u r which cs)
over_value (raw.Hole w) bytes r (n, e) = same parts.Tag parts.Tag bytes (91 ∷ (w ++ 93 ∷ r)) r (w ∷ []) e (over_gap w r n)

over_attr : (a : RawAttr) (bytes r : List ℕ) → IsAttr a bytes r → Finds parts.Tag bytes (value_gaps a.value) parts.Tag r
over_attr a bytes r h = same parts.Tag parts.Tag bytes (h.blanks ++ (a.name ++ 61 ∷ h.behind)) r (value_gaps a.value) h.parts
    (go parts.Tag parts.Tag parts.Tag (h.blanks ++ (a.name ++ 61 ∷ h.behind)) (a.name ++ 61 ∷ h.behind) r [] (value_gaps a.value)
    (blanks h.blanks (a.name ++ 61 ∷ h.behind) h.all_blank)
    (go parts.Tag parts.Tag parts.Tag (a.name ++ 61 ∷ h.behind) (61 ∷ h.behind) r [] (value_gaps a.value) (attr_name a.name (61 ∷ h.behind) h.name)
    (go parts.Tag parts.Tag parts.Tag (61 ∷ h.behind) h.behind r [] (value_gaps a.value) (one parts.Tag parts.Tag 61 h.behind refl refl)
    (over_value a.value h.behind r h.value))))

over_attrs : (xs : List RawAttr) (bytes r : List ℕ) → Each IsAttr xs bytes r → Finds parts.Tag bytes (attr_gaps xs) parts.Tag r
over_attrs [] bytes r e = ap (gaps_in parts.Tag) e
over_attrs (a ∷ xs) bytes r (mid, x, y) =
    go parts.Tag parts.Tag parts.Tag bytes mid r (value_gaps a.value) (attr_gaps xs) (over_attr a bytes mid x) (over_attrs xs mid r y)

over_tag : (t : Tag) (bytes r : List ℕ) → IsTag t bytes r → Finds parts.Tag bytes (attr_gaps t.attrs) parts.Tag r
over_tag t bytes r h = same parts.Tag parts.Tag bytes (t.name ++ h.behind) r (attr_gaps t.attrs) h.parts
    (go parts.Tag parts.Tag parts.Tag (t.name ++ h.behind) h.behind r [] (attr_gaps t.attrs) (tag_name t.name h.behind h.name)
    (over_attrs t.attrs h.behind h.after_attrs h.attrs ∙ ap (λ l. attr_gaps t.attrs ++ l) (ap (gaps_in parts.Tag) h.end ∙ blanks h.blanks r h.all_blank)))

-- ---- pieces

over_piece : (p : Piece) (bytes mid : List ℕ) → IsPiece p bytes mid → Finds parts.Outside bytes (piece_gaps p) parts.Outside mid
over_piece (piece.Text s) bytes mid (ne, u, cs) = over_chars parts.Outside 60 s bytes mid text_chars cs
over_piece (piece.Gap w) bytes mid (name, e) =
    let a = 91 ∷ (w ++ (93 ∷ 62 ∷ mid)) in
    same parts.Outside parts.Outside bytes (60 ∷ a) mid (w ∷ []) e
    (go parts.Outside parts.Tag parts.Outside (60 ∷ a) a mid [] (w ∷ []) (one parts.Outside parts.Tag 60 a refl refl)
    (over_gap w (62 ∷ mid) name ∙ ap (λ l. (w ∷ []) ++ l) (one parts.Tag parts.Outside 62 mid refl refl)))
over_piece (piece.Start t) bytes mid (m, e, h) = same parts.Outside parts.Outside bytes (60 ∷ m) mid (attr_gaps t.attrs) e
    (go parts.Outside parts.Tag parts.Outside (60 ∷ m) m mid [] (attr_gaps t.attrs) (one parts.Outside parts.Tag 60 m refl refl)
    (over_tag t m (62 ∷ mid) h ∙ ap (λ l. attr_gaps t.attrs ++ l) (one parts.Tag parts.Outside 62 mid refl refl)))
over_piece (piece.Whole t) bytes mid (m, e, h) = same parts.Outside parts.Outside bytes (60 ∷ m) mid (attr_gaps t.attrs) e
    (go parts.Outside parts.Tag parts.Outside (60 ∷ m) m mid [] (attr_gaps t.attrs) (one parts.Outside parts.Tag 60 m refl refl)
    (over_tag t m (47 ∷ 62 ∷ mid) h ∙ ap (λ l. attr_gaps t.attrs ++ l) (go parts.Tag parts.Tag parts.Outside (47 ∷ 62 ∷ mid) (62 ∷ mid) mid [] []
    (one parts.Tag parts.Tag 47 (62 ∷ mid) refl refl) (one parts.Tag parts.Outside 62 mid refl refl))))
over_piece (piece.End w) bytes mid (name, space, all, e) =
    let c = space ++ (62 ∷ mid) in let b = w ++ c in let a = 47 ∷ b in
    same parts.Outside parts.Outside bytes (60 ∷ a) mid [] e
    (go parts.Outside parts.Tag parts.Outside (60 ∷ a) a mid [] [] (one parts.Outside parts.Tag 60 a refl refl)
    (go parts.Tag parts.Tag parts.Outside a b mid [] [] (one parts.Tag parts.Tag 47 b refl refl)
    (go parts.Tag parts.Tag parts.Outside b c mid [] [] (tag_name w c name)
    (go parts.Tag parts.Tag parts.Outside c (62 ∷ mid) mid [] [] (blanks space (62 ∷ mid) all) (one parts.Tag parts.Outside 62 mid refl refl)))))

over_pieces : (ps : List Piece) (bytes : List ℕ) → Each IsPiece ps bytes [] → Finds parts.Outside bytes (gap_names ps) parts.Outside []
over_pieces [] bytes e = ap (gaps_in parts.Outside) e
over_pieces (p ∷ ps) bytes (mid, x, y) =
    go parts.Outside parts.Outside parts.Outside bytes mid [] (piece_gaps p) (gap_names ps) (over_piece p bytes mid x) (over_pieces ps mid y)

pub gaps_are_found : GapsAreFound
gaps_are_found ps bytes h = over_pieces ps bytes h.pieces ∙ append-nil (gap_names ps)
