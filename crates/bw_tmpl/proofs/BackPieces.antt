-- The pieces that a document is printed with.
use Rattle.std.proofs.Common.{◌≡◌, ◌≢◌, ℕ, Bool, true, false, ◌⊎◌, inl, inr, List, [], ◌∷◌, ◌++◌, map, refl, sym, ap, subst, ◌∙◌}
use Rattle.std.proofs.Common.{arith, append_assoc}
use Rattle.std.specs.Prelude.{if◌then◌else◌, nat_eq, codes}
use Rattle.std.proofs.lemmas.Bool.{eqb-true}
use Rattle.std.proofs.lemmas.Bool.Decides.{nat_tests}
use Rattle.bw_lang.specs.declared.items.Attr.{Attr}
use Rattle.bw_lang.specs.declared.items.AttrValue.{AttrValue}
use Rattle.bw_lang.specs.declared.items.AttrValue.TheVariants as value
use Rattle.bw_lang.specs.Document.Forest.{Forest, none, text, gap, element}
use Rattle.bw_lang.specs.Template.Markup.{escaped_byte, escaped, is_void}
use Rattle.bw_lang.specs.Document.Print.{printed_attr, printed_attrs, printed_start, printed_end, print}
use Rattle.bw_lang.specs.declared.pieces.Tag.{Tag}
use Rattle.bw_lang.specs.declared.pieces.Piece.{Piece}
use Rattle.bw_lang.specs.declared.pieces.Piece.TheVariants as piece
use Rattle.bw_lang.specs.declared.pieces.RawAttr.{RawAttr}
use Rattle.bw_lang.specs.declared.pieces.RawValue.{RawValue}
use Rattle.bw_lang.specs.declared.pieces.RawValue.TheVariants as raw
use Rattle.bw_lang.specs.declared.pieces.NameClass.TheVariants as class
use Rattle.bw_lang.specs.Template.NumberedGaps.{numbered, numbered_value}
use Rattle.bw_lang.specs.Template.PieceItems.{ReadsPieces}
use Rattle.bw_lang.specs.Template.RepeatedAttributes.{attr_names}
use Rattle.bw_lang.specs.Template.Pieces.{IsNameOf, IsChar, Each, IsAttr, IsTag, IsPiece}
use Rattle.bw_tmpl.specs.Markup.{IsValueOf, AreAttrs, names_of, IsClosedMarkup}
use Rattle.bw_tmpl.proofs.Inverse.{reads-append}

-- ---- characters

abbrev IsStop : ℕ → Type 0
IsStop stop = (stop ≡ 60) ⊎ (stop ≡ 34)

not_stop : (stop b : ℕ) → IsStop stop → nat_eq b 60 ≡ false → nat_eq b 34 ≡ false → b ≢ stop
not_stop stop b (inl h) p q = grind (arith, nat_tests)
not_stop stop b (inr h) p q = grind (arith, nat_tests)

neq : (a b : ℕ) → nat_eq a b ≡ false → a ≢ b
neq a b h = grind (arith, nat_tests)

char_tests : (stop b : ℕ) (rest : List ℕ) (s : IsStop stop) (v38 v60 v62 v34 : Bool) → nat_eq b 38 ≡ v38 → nat_eq b 60 ≡ v60 → nat_eq b 62 ≡ v62
    → nat_eq b 34 ≡ v34
    → IsChar stop b ((if v38 then codes "&amp;" else if v60 then codes "&lt;" else if v62 then codes "&gt;" else if v34 then codes "&quot;" else b
    ∷ []) ++ rest) rest
char_tests stop b rest s true v60 v62 v34 p q r t = inr (codes "&amp;", inl (eqb-true b 38 p, refl), refl)
char_tests stop b rest s false true v62 v34 p q r t = inr (codes "&lt;", inr (inl (eqb-true b 60 q, refl)), refl)
char_tests stop b rest s false false true v34 p q r t = inr (codes "&gt;", inr (inr (inl (eqb-true b 62 r, refl))), refl)
char_tests stop b rest s false false false true p q r t = inr (codes "&quot;", inr (inr (inr (eqb-true b 34 t, refl))), refl)
char_tests stop b rest s false false false false p q r t = inl (refl, neq b 38 p, neq b 60 q, not_stop stop b s q t)

char_printed : (stop b : ℕ) (rest : List ℕ) → IsStop stop → IsChar stop b (escaped_byte b ++ rest) rest
char_printed stop b rest s = char_tests stop b rest s (nat_eq b 38) (nat_eq b 60) (nat_eq b 62) (nat_eq b 34) refl refl refl refl

pub chars_printed : (stop : ℕ) (s rest : List ℕ) → IsStop stop → Each (IsChar stop) s (escaped s ++ rest) rest
chars_printed stop [] rest h = refl
chars_printed stop (b ∷ s) rest h = (
  escaped s ++ rest,
  subst (λ (l : List ℕ). IsChar stop b l (escaped s ++ rest)) (sym (append_assoc (escaped_byte b) (escaped s) rest))
      (char_printed stop b (escaped s ++ rest) h),
  chars_printed stop s rest h,
)

-- ---- attributes

-- a value as it is written; an open gap is written nowhere
abbrev pub raw_value : AttrValue → RawValue
raw_value (value.Fixed v) = raw.Fixed v
raw_value (value.Hole g) = raw.Hole []

abbrev pub raw_attr : Attr → RawAttr
raw_attr a = record { name = a.name; value = raw_value a.value }

pub raw_names : (attrs : List Attr) → attr_names (map raw_attr attrs) ≡ names_of attrs
raw_names [] = refl
raw_names (a ∷ attrs) = ap (λ (l : List (List ℕ)). a.name ∷ l) (raw_names attrs)

attr_printed : (a : Attr) (rest : List ℕ) → IsNameOf class.Attr a.name → IsValueOf ⊥ a.value → IsAttr (raw_attr a) (printed_attr a.name a.value ++ rest) rest
attr_printed a rest n f = by_value a.value f
  where
    by_value : (v : AttrValue) → IsValueOf ⊥ v → IsAttr (record { name = a.name; value = raw_value v }) (printed_attr a.name v ++ rest) rest
    by_value (value.Fixed v) u = record {
      blanks = codes " ";
      some_blank = refl;
      all_blank = refl;
      name = n;
      behind = 34 ∷ (escaped v ++ 34 ∷ rest);
      parts =
          ap (λ (l : List ℕ). 32 ∷ l) (append_assoc a.name (codes "=\"" ++ (escaped v ++ codes "\"")) rest
          ∙ ap (λ (l : List ℕ). a.name ++ (codes "=\"" ++ l)) (append_assoc (escaped v) (codes "\"") rest));
      value = (34, inl refl, escaped v ++ 34 ∷ rest, refl, chars_printed 34 v (34 ∷ rest) (inr refl), u);
    }
    by_value (value.Hole g) u = absurd u

attrs_printed : (attrs : List Attr) (rest : List ℕ) → AreAttrs ⊥ attrs → Each IsAttr (map raw_attr attrs) (printed_attrs attrs ++ rest) rest
attrs_printed [] rest h = refl
attrs_printed (a ∷ attrs) rest h = (
  printed_attrs attrs ++ rest,
  subst (λ (l : List ℕ). IsAttr (raw_attr a) l (printed_attrs attrs ++ rest))
      (sym (append_assoc (printed_attr a.name a.value) (printed_attrs attrs) rest)) (attr_printed a (printed_attrs attrs ++ rest) h.0 h.1),
  attrs_printed attrs rest h.2,
)

abbrev pub tag_of : List ℕ → List Attr → Tag
tag_of tag attrs = record { name = tag; attrs = map raw_attr attrs }

tag_printed : (tag : List ℕ) (attrs : List Attr) (rest : List ℕ) → IsNameOf class.Tag tag → AreAttrs ⊥ attrs
    → IsTag (tag_of tag attrs) (tag ++ (printed_attrs attrs ++ rest)) rest
tag_printed tag attrs rest n h =
    record {
      name = n;
      behind = printed_attrs attrs
          ++ rest;
      parts = refl;
      after_attrs = rest;
      attrs = attrs_printed attrs rest h;
      blanks = [];
      all_blank = refl;
      end = refl;
    }

numbered_value_raw : (v : AttrValue) → IsValueOf ⊥ v → v ≡ numbered_value [] (raw_value v)
numbered_value_raw (value.Fixed v) h = refl
numbered_value_raw (value.Hole g) h = absurd h

attrs_numbered : (attrs : List Attr) → AreAttrs ⊥ attrs → attrs ≡ map (numbered []) (map raw_attr attrs)
attrs_numbered [] h = refl
attrs_numbered (a ∷ attrs) h =
    let e : a.value ≡ numbered_value [] (raw_value a.value) = numbered_value_raw a.value h.1 in
    let r = attrs_numbered attrs h.2 in λ i. record { name = a.name; value = e i } ∷ r i

-- ---- the pieces of a document

abbrev pub element_pieces : Bool → Tag → List Piece → List Piece → List Piece
element_pieces true t inner rest = piece.Whole t ∷ rest
element_pieces false t inner rest = piece.Start t ∷ (inner ++ piece.End t.name ∷ rest)

abbrev pub written : Forest → List Piece
written none = []
written (text s f) = piece.Text s ∷ written f
written (gap g f) = written f
written (element tag attrs inner f) = element_pieces (is_void tag) (tag_of tag attrs) (written inner) (written f)

each_append : {A : Type 0} (R : A → List ℕ → List ℕ → Type 0) (xs ys : List A) (a b c : List ℕ) → Each R xs a b → Each R ys b c → Each R (xs ++ ys) a c
each_append R [] ys a b c p q = subst (λ (l : List ℕ). Each R ys l c) (sym p) q
each_append R (x ∷ xs) ys a b c p q = (p.0, p.1, each_append R xs ys p.0 b c p.2 q)

abbrev pub starts_text : Forest → Bool
starts_text none = false
starts_text (text s f) = true
starts_text (gap g f) = false
starts_text (element tag attrs inner f) = false

-- no text is empty or stands behind another
abbrev pub Tidy : Forest → Type 0
Tidy none = Unit {0}
Tidy (text s f) = (s ≢ []) × (starts_text f ≡ false) × Tidy f
Tidy (gap g f) = Tidy f
Tidy (element tag attrs inner f) = Tidy inner × Tidy f

abbrev Prints : Forest → Type 0
Prints f = (rest : List ℕ) → Each IsPiece (written f) (print f ++ rest) rest

end_printed : (tag : List ℕ) (rest : List ℕ) → IsNameOf class.Tag tag → IsPiece (piece.End tag) (printed_end tag ++ rest) rest
end_printed tag rest n = (n, [], refl, ap (λ (l : List ℕ). codes "</" ++ l) (append_assoc tag (codes ">") rest))

element_printed : (tag : List ℕ) (attrs : List Attr) (inner f : Forest) (v : Bool) → IsNameOf class.Tag tag → AreAttrs ⊥ attrs
    → (v ≡ true → inner ≡ none) → Prints inner → Prints f
    → (rest : List ℕ)
    → Each IsPiece (element_pieces v (tag_of tag attrs) (written inner) (written f))
    (((printed_start tag attrs ++ (if v then codes "/>" else codes ">" ++ (print inner ++ printed_end tag))) ++ print f) ++ rest) rest
element_printed tag attrs inner f true n h z pi pf rest =
    let r = print f ++ rest in
    let m = tag ++ (printed_attrs attrs ++ (codes "/>" ++ r)) in
    let e : ((printed_start tag attrs ++ codes "/>") ++ print f) ++ rest ≡ 60 ∷ m =
    append_assoc (printed_start tag attrs ++ codes "/>") (print f) rest ∙ append_assoc (printed_start tag attrs) (codes "/>") r
    ∙ ap (λ (l : List ℕ). 60 ∷ l) (append_assoc tag (printed_attrs attrs) (codes "/>" ++ r)) in
    (r, (m, e, tag_printed tag attrs (codes "/>" ++ r) n h), pf rest)
element_printed tag attrs inner f false n h z pi pf rest =
    let r = print f ++ rest in
    let k = print inner ++ (printed_end tag ++ r) in
    let m = tag ++ (printed_attrs attrs ++ (codes ">" ++ k)) in
    let body = codes ">" ++ (print inner ++ printed_end tag) in
    let e : ((printed_start tag attrs ++ body) ++ print f) ++ rest ≡ 60 ∷ m =
    append_assoc (printed_start tag attrs ++ body) (print f) rest ∙ append_assoc (printed_start tag attrs) body r
    ∙ ap (λ (l : List ℕ). 60 ∷ l) (append_assoc tag (printed_attrs attrs) (body ++ r))
    ∙ ap (λ (l : List ℕ). 60 ∷ (tag ++ (printed_attrs attrs ++ (codes ">" ++ l)))) (append_assoc (print inner) (printed_end tag) r) in
    let behind : Each IsPiece (piece.End tag ∷ written f) (printed_end tag ++ r) rest = (r, end_printed tag r n, pf rest) in (
      k,
      (m, e, tag_printed tag attrs (codes ">" ++ k) n h),
      each_append IsPiece (written inner) (piece.End tag ∷ written f) k (printed_end tag ++ r) rest (pi (printed_end tag ++ r)) behind,
    )

pub prints : (f : Forest) → IsClosedMarkup f → Tidy f → Prints f
prints none s t rest = refl
prints (text x f) s t rest = (
  print f ++ rest,
  (
    t.0,
    s.0,
    subst (λ (l : List ℕ). Each (IsChar 60) x l (print f ++ rest)) (sym (append_assoc (escaped x) (print f) rest))
        (chars_printed 60 x (print f ++ rest) (inl refl)),
  ),
  prints f s.1 t.2 rest,
)
prints (gap g f) s t rest = absurd s.0
prints (element tag attrs inner f) s t rest = element_printed tag attrs inner f (is_void tag) s.0 s.1 s.3 (prints inner s.4 t.0) (prints f s.5 t.1) rest

-- ---- the pieces read as the document

element_reads : (tag : List ℕ) (attrs : List Attr) (inner : Forest) (v : Bool) → is_void tag ≡ v → AreAttrs ⊥ attrs → (v ≡ true → inner ≡ none)
    → ((rest : List Piece) → ReadsPieces [] inner (written inner ++ rest) rest)
    → (rest : List Piece) → ReadsPieces [] (element tag attrs inner none) (element_pieces v (tag_of tag attrs) (written inner) rest) rest
element_reads tag attrs inner true e h z ri rest = (rest, (tag_of tag attrs, refl, attrs_numbered attrs h, inl (refl, z refl)), refl)
element_reads tag attrs inner false e h z ri rest =
    (rest, (tag_of tag attrs, refl, attrs_numbered attrs h, inr (inr (written inner ++ piece.End tag ∷ rest, refl, e, ri (piece.End tag ∷ rest)))), refl)

element_append : (v : Bool) (t : Tag) (inner ps rest : List Piece) → element_pieces v t inner ps ++ rest ≡ element_pieces v t inner (ps ++ rest)
element_append true t inner ps rest = refl
element_append false t inner ps rest = ap (λ (l : List Piece). piece.Start t ∷ l) (append_assoc inner (piece.End t.name ∷ ps) rest)

pub reads_written : (f : Forest) → IsClosedMarkup f → (rest : List Piece) → ReadsPieces [] f (written f ++ rest) rest
reads_written none s rest = refl
reads_written (text x f) s rest = (written f ++ rest, refl, reads_written f s.1 rest)
reads_written (gap g f) s rest = absurd s.0
reads_written (element tag attrs inner f) s rest =
    let r = element_reads tag attrs inner (is_void tag) refl s.1 s.3 (reads_written inner s.4) (written f ++ rest) in
    let m : ReadsPieces [] (element tag attrs inner none) (element_pieces (is_void tag) (tag_of tag attrs) (written inner) (written f) ++ rest)
    (written f ++ rest) =
    subst (λ (l : List Piece). ReadsPieces [] (element tag attrs inner none) l (written f ++ rest))
    (sym (element_append (is_void tag) (tag_of tag attrs) (written inner) (written f) rest)) r in
    reads-append [] (element tag attrs inner none) f (element_pieces (is_void tag) (tag_of tag attrs) (written inner) (written f) ++ rest)
    (written f ++ rest) rest m (reads_written f s.5 rest)
