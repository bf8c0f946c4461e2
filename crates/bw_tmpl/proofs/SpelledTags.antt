-- Attributes and tags.
use Rattle.std.proofs.Common.{◌≡◌, ℕ, suc, Bool, true, false, List, [], ◌∷◌, ◌++◌, take, drop, Option, Some, None, refl}
use Rattle.std.proofs.Common.{sym, ap, subst, ◌∙◌, arith}
use Rattle.std.specs.Prelude.{if◌then◌else◌, codes}
use Rattle.std.proofs.lemmas.List.{take-append-drop}
use Rattle.std.proofs.lemmas.Bool.{and_parts}
use Rattle.std.proofs.lemmas.Bool.Decides.{nat_tests}
use Rattle.bw_lang.specs.declared.pieces.NameClass.TheVariants as class
use Rattle.bw_lang.specs.declared.pieces.RawAttr.{RawAttr}
use Rattle.bw_lang.specs.declared.pieces.RawValue.{RawValue}
use Rattle.bw_lang.specs.declared.pieces.Tag.{Tag}
use Rattle.std.specs.Char.{is_ascii_lowercase}
use Rattle.bw_lang.specs.Table.Options.{◌>>=◌}
use Rattle.bw_tmpl.specs.Steps.Reading.{stripped, leading, past_blanks, name_at, each, value_at}
use Rattle.bw_tmpl.specs.Steps.Reading.{attr_at, tag_at}
use Rattle.bw_lang.specs.Text.Bytes.{is_blank}
use Rattle.bw_lang.specs.Template.MarkupNames.{begins, later_of}
use Rattle.bw_lang.specs.Template.Pieces.{passes, Each, IsAttr, IsTag}
use Rattle.bw_lang.proofs.Options.{if_some, bind_some, some_is}
use Rattle.bw_tmpl.proofs.Many.{stripped_is}
use Rattle.bw_tmpl.proofs.Shrinking.{attr_shrinks}
use Rattle.bw_tmpl.proofs.SpelledNames.{leading_front, past_is, name_is, begins_with_append, name_written}
use Rattle.bw_tmpl.proofs.SpelledValues.{each_is, each_written, value_is, value_written}

-- ---- attributes

abbrev rest_of_attr : List ℕ × List ℕ → Option (RawAttr × List ℕ)
rest_of_attr n = stripped (codes "=") n.1 >>= λ m. value_at m >>= λ v. Some (record { name = n.0; value = v.0 }, v.1)

begins_with_take : (p : ℕ → Bool) (bs : List ℕ) → begins p bs ≡ true → begins p (take (leading p bs) bs) ≡ true
begins_with_take p [] h = h
begins_with_take p (b ∷ bs) h = ap (λ (v : Bool). begins p (take (if v then suc (leading p bs) else 0) (b ∷ bs))) h ∙ h

pub attr_is : (bytes : List ℕ) (x : RawAttr × List ℕ) → attr_at bytes ≡ Some x → IsAttr x.0 bytes x.1
unfolding attr_at
attr_is bytes x h =
    let g = if_some (begins is_blank bytes) (name_at class.Attr (past_blanks bytes) >>= rest_of_attr) x h in
    let a = bind_some (name_at class.Attr (past_blanks bytes)) rest_of_attr x g.1 in
    let b = bind_some (stripped (codes "=") a.0.1) (λ m. value_at m >>= λ v. Some (record { name = a.0.0; value = v.0 }, v.1)) x a.2 in
    let c = bind_some (value_at b.0) (λ v. Some (record { name = a.0.0; value = v.0 }, v.1)) x b.2 in
    let n = name_is class.Attr (past_blanks bytes) a.0 a.1 in
    let w = take (leading is_blank bytes) bytes in
    let e : bytes ≡ w ++ (a.0.0 ++ 61 ∷ b.0) =
    sym (take-append-drop (leading is_blank bytes) bytes)
    ∙ ap (λ (l : List ℕ). w ++ l) (n.parts ∙ ap (λ (l : List ℕ). a.0.0 ++ l) (stripped_is (codes "=") a.0.1 b.0 b.1)) in
    let made : IsAttr (record { name = a.0.0; value = c.0.0 }) bytes c.0.1 =
    record {
      blanks = w;
      some_blank = begins_with_take is_blank bytes g.0;
      all_blank = leading_front is_blank
          bytes;
      name = n.name;
      behind = b.0;
      parts = e;
      value = value_is b.0 c.0 c.1;
    } in
    subst (λ (y : RawAttr × List ℕ). IsAttr y.0 bytes y.1) (some_is (record { name = a.0.0; value = c.0.0 }, c.0.1) x c.2) made

lowercase_no_blank : (c : ℕ) → is_ascii_lowercase c ≡ true → is_blank c ≡ false
lowercase_no_blank c h = grind (arith, nat_tests)

attr_no_blank : (n rest : List ℕ) → begins is_ascii_lowercase n ≡ true → begins is_blank (n ++ rest) ≡ false
attr_no_blank [] rest h = absurd (cc)
attr_no_blank (c ∷ n) rest h = lowercase_no_blank c h

pub attr_written : (a : RawAttr) (bytes rest : List ℕ) → IsAttr a bytes rest → attr_at bytes ≡ Some (a, rest)
unfolding attr_at
attr_written a bytes rest h =
    let s : begins is_blank bytes ≡ true = ap (begins is_blank) h.parts ∙ begins_with_append is_blank h.blanks (a.name ++ 61 ∷ h.behind) h.some_blank in
    let p : past_blanks bytes ≡ a.name ++ 61 ∷ h.behind =
    ap past_blanks h.parts ∙ past_is h.blanks (a.name ++ 61 ∷ h.behind) h.all_blank (attr_no_blank a.name (61 ∷ h.behind) h.name.first) in
    let n : name_at class.Attr (past_blanks bytes) ≡ Some (a.name, 61 ∷ h.behind) =
    ap (name_at class.Attr) p ∙ name_written class.Attr a.name (61 ∷ h.behind) h.name refl in
    ap (λ (v : Bool). if v then (name_at class.Attr (past_blanks bytes) >>= rest_of_attr) else None) s
    ∙ ap (λ (o : Option (List ℕ × List ℕ)). o >>= rest_of_attr) n
    ∙ ap (λ (o : Option (RawValue × List ℕ)). o >>= λ v. Some (record { name = a.name; value = v.0 }, v.1)) (value_written a.value h.behind rest h.value)

-- ---- tags

pub tag_is : (bytes : List ℕ) (x : Tag × List ℕ) → tag_at bytes ≡ Some x → IsTag x.0 bytes x.1
unfolding tag_at
tag_is bytes x h =
    let a = bind_some (name_at class.Tag bytes) (λ n. Some (record { name = n.0; attrs = (each attr_at n.1).0 }, past_blanks (each attr_at n.1).1)) x h in
    let n = name_is class.Tag bytes a.0 a.1 in
    let t = each attr_at a.0.1 in
    let s = each_is attr_at IsAttr attr_shrinks attr_is a.0.1 in
    let made : IsTag (record { name = a.0.0; attrs = t.0 }) bytes (past_blanks t.1) =
    record {
      name = n.name;
      behind = a.0.1;
      parts = n.parts;
      after_attrs = t.1;
      attrs = s.all;
      blanks = take (leading is_blank t.1)
          t.1;
      all_blank = leading_front is_blank t.1;
      end = sym (take-append-drop (leading is_blank t.1) t.1);
    } in
    subst (λ (y : Tag × List ℕ). IsTag y.0 bytes y.1) (some_is (record { name = a.0.0; attrs = t.0 }, past_blanks t.1) x a.2) made

-- what stands behind a tag's blanks
pub record Ends (rest : List ℕ) : Type 0 where
  pub no_blank : begins is_blank rest ≡ false
  pub no_name : begins is_ascii_lowercase rest ≡ false
  pub no_later : begins (later_of class.Tag) rest ≡ false

no_attr : (w rest : List ℕ) → passes is_blank w ≡ true → Ends rest → attr_at (w ++ rest) ≡ None
unfolding attr_at
no_attr w rest h e =
    let p : past_blanks (w ++ rest) ≡ rest = past_is w rest h e.no_blank in
    let n : name_at class.Attr (past_blanks (w ++ rest)) ≡ None =
    ap (name_at class.Attr) p
    ∙ ap (λ (v : Bool). if v then Some (take (leading (later_of class.Attr) rest) rest, drop (leading (later_of class.Attr) rest) rest) else None)
    e.no_name in
    same_none (begins is_blank (w ++ rest)) (name_at class.Attr (past_blanks (w ++ rest)) >>= rest_of_attr)
    (ap (λ (o : Option (List ℕ × List ℕ)). o >>= rest_of_attr) n)
  where
    same_none : (b : Bool) (o : Option (RawAttr × List ℕ)) → o ≡ None → (if b then o else None) ≡ None
    same_none true o e = e
    same_none false o e = refl

blank_no_later : (c : ℕ) → is_blank c ≡ true → later_of class.Tag c ≡ false
blank_no_later c h = grind (arith, nat_tests)

blank_ends : (w rest : List ℕ) → begins is_blank w ≡ true → begins (later_of class.Tag) (w ++ rest) ≡ false
blank_ends [] rest h = absurd (cc)
blank_ends (c ∷ w) rest h = blank_no_later c h

pub blanks_end : (w rest : List ℕ) → passes is_blank w ≡ true → Ends rest → begins (later_of class.Tag) (w ++ rest) ≡ false
blanks_end [] rest h e = e.no_later
blanks_end (c ∷ w) rest h e = blank_no_later c (and_parts (is_blank c) (passes is_blank w) h).0

attrs_end : (attrs : List RawAttr) (behind after w rest : List ℕ) → Each IsAttr attrs behind after → after ≡ w ++ rest → passes is_blank w ≡ true
    → Ends rest → begins (later_of class.Tag) behind ≡ false
attrs_end [] behind after w rest h p q e = ap (begins (later_of class.Tag)) (h ∙ p) ∙ blanks_end w rest q e
attrs_end (a ∷ attrs) behind after w rest h p q e =
    let k = h.1 in ap (begins (later_of class.Tag)) k.parts ∙ blank_ends k.blanks (a.name ++ 61 ∷ k.behind) k.some_blank

pub tag_written : (t : Tag) (bytes rest : List ℕ) → IsTag t bytes rest → Ends rest → tag_at bytes ≡ Some (t, rest)
unfolding tag_at
tag_written t bytes rest h e =
    let n : name_at class.Tag bytes ≡ Some (t.name, h.behind) =
    ap (name_at class.Tag) h.parts
    ∙ name_written class.Tag t.name h.behind h.name (attrs_end t.attrs h.behind h.after_attrs h.blanks rest h.attrs h.end h.all_blank e) in
    let m : attr_at h.after_attrs ≡ None = ap attr_at h.end ∙ no_attr h.blanks rest h.all_blank e in
    let a : each attr_at h.behind ≡ (t.attrs, h.after_attrs) = each_written attr_at IsAttr attr_shrinks attr_written t.attrs h.behind h.after_attrs h.attrs m in
    let p : past_blanks h.after_attrs ≡ rest = ap past_blanks h.end ∙ past_is h.blanks rest h.all_blank e.no_blank in
    ap (λ (o : Option (List ℕ × List ℕ)). o >>= λ n. Some (record { name = n.0; attrs = (each attr_at n.1).0 }, past_blanks (each attr_at n.1).1)) n
    ∙ ap (λ (y : List RawAttr × List ℕ). Some (record { name = t.name; attrs = y.0 }, past_blanks y.1)) a
    ∙ ap (λ (r : List ℕ). Some (record { name = t.name; attrs = t.attrs }, r)) p
