-- Pages that are printed read back.
use Rattle.std.proofs.Common.{◌≡◌, ◌≤◌, ◌<◌, ℕ, suc, max, true, false, List, [], ◌∷◌, ◌++◌, refl, sym, ap, arith, inl}
use Rattle.std.specs.Prelude.{IsUtf8, codes}
use Rattle.std.specs.List.{AllPass}
use Rattle.std.proofs.lemmas.List.{append-nil}
use Rattle.std.proofs.lemmas.Bool.Decides.{nat_tests}
use Rattle.std.proofs.lemmas.Str.{IsUtf8-append}
use Rattle.bw_lang.specs.declared.items.Attr.{Attr}
use Rattle.bw_lang.specs.declared.items.AttrValue.TheVariants.{Fixed}
use Rattle.bw_lang.specs.declared.measure.Measure.{Measure}
use Rattle.bw_lang.specs.Document.Documents.{append, close}
use Rattle.bw_lang.specs.Document.Forest.{Forest, none, text, gap, element}
use Rattle.bw_lang.specs.Template.Markup.{is_void}
use Rattle.bw_lang.specs.Document.Measures.{nest, IsDocument}
use Rattle.bw_lang.specs.Template.Pieces.{IsNameOf}
use Rattle.bw_lang.specs.declared.pieces.NameClass.TheVariants as class
use Rattle.bw_lang.specs.Document.Measures.{IsDocument as document}
use Rattle.bw_lang.specs.Document.Print.{print, joined}
use Rattle.bw_lang.specs.Document.Wrappers.{attr, page, form, button}
use Rattle.bw_lang.proofs.Bounds.{nest_bounds}
use Rattle.bw_lang.proofs.Weights.{nest-append}
use Rattle.bw_lang.specs.Text.Bytes.{is_word_byte, is_digit}
use Rattle.bw_page.specs.Bytes.{is_hex_digit}
use Rattle.bw_page.specs.Laws.{turn_target}
use Rattle.bw_page.specs.Pages.{show_page, exit_page}
use Rattle.bw_page.proofs.Sizes.{turn_length, exit_length}
use Rattle.bw_tmpl.specs.Markup.{AreAttrs, IsMarkup, IsClosedMarkup}
use Rattle.bw_tmpl.proofs.Back as template
use Rattle.bw_tmpl.proofs.Keeping.{plug_markup, plug_text_markup, close_markup}
use Rattle.bw_tmpl.proofs.Made.{reads_markup}
use Rattle.bw_read.specs.Laws.{ReadsBack, ShownReadsBack, LastReadsBack, MadeIsMarkup, MadeShownReadsBack, MadeLastReadsBack}
use Rattle.bw_read.specs.Made.{IsMade, IsShown, IsTitle}
use Rattle.bw_read.specs.Made.{IsMade as making}
use Rattle.bw_read.specs.Pages.{IsRoot}
use Rattle.bw_read.proofs.Utf8.{class_utf8, ascii_codes, print_utf8}

joined_root : (f : Forest) → IsRoot f → IsRoot (joined f)
joined_root f r = (r.0, joined r.1, ap joined r.2)

pub reads_back : ReadsBack
reads_back f markup root nested short = record {
  front = [];
  front_blank = refl;
  doctype = [];
  doctype_or_none = inl refl;
  inside = print f;
  reads = template.reads_back f 512 markup nested;
  root = joined_root f root;
  back = [];
  back_blank = refl;
  parts = sym (append-nil (print f));
  utf8 = print_utf8 f markup;
  short = short;
}

-- ---- pages of documents that are markup

append_closed : (e f : Forest) → IsClosedMarkup e → IsClosedMarkup f → IsClosedMarkup (append e f)
append_closed none f p q = q
append_closed (text s e) f p q = (p.0, append_closed e f p.1 q)
append_closed (gap g e) f p q = absurd p.0
append_closed (element tag attrs inner e) f p q = (p.0, p.1, p.2, p.3, p.4, append_closed e f p.5 q)

close_nest : (d : Forest) → nest (close d) ≡ nest d
close_nest none = refl
close_nest (text s d) = close_nest d
close_nest (gap g d) = close_nest d
close_nest (element tag attrs inner d) = λ i. max (suc (close_nest inner i)) (close_nest d i)

never_void : (inner : Forest) (tag : List ℕ) → is_void tag ≡ false → is_void tag ≡ true → inner ≡ none
never_void inner tag e h = absurd (cc)

-- an element without attributes that has an end tag
plain_closed : (tag : List ℕ) (inner rest : Forest) → IsNameOf class.Tag tag → is_void tag ≡ false → IsClosedMarkup inner → IsClosedMarkup rest
    → IsClosedMarkup (element tag [] inner rest)
plain_closed tag inner rest n v p q = (n, tt, refl, never_void inner tag v, p, q)

page_closed : (title : List ℕ) (body : Forest) → IsUtf8 title → IsClosedMarkup body → IsClosedMarkup (page (text title none) body)
page_closed title body t b =
    let named : IsClosedMarkup (text title none) = (t, tt) in
    let titled = element (codes "title") [] (text title none) none in
    let last = element (codes "body") [] body none in
    let head = plain_closed (codes "title") (text title none) none (record { first = refl; later = refl }) refl named tt in
    let items = plain_closed (codes "body") body none (record { first = refl; later = refl }) refl b tt in
    let inside = plain_closed (codes "head") titled last (record { first = refl; later = refl }) refl head items in
    plain_closed (codes "html") (element (codes "head") [] titled last) none (record { first = refl; later = refl }) refl inside tt

-- ---- the button and the form

named_attr : (name value : List ℕ) (rest : List Attr) → IsNameOf class.Attr name → IsUtf8 value → AreAttrs ⊥ rest → AreAttrs ⊥ (attr name (Fixed value) ∷ rest)
named_attr name value rest n u h = (n, u, h)

button_attrs : AreAttrs ⊥ (attr (codes "type") (Fixed (codes "submit")) ∷ attr (codes "value") (Fixed (codes "Continue")) ∷ [])
button_attrs =
    let value = named_attr (codes "value") (codes "Continue") [] (record { first = refl; later = refl }) (ascii_codes (codes "Continue") refl) tt in
    let rest = attr (codes "value") (Fixed (codes "Continue")) ∷ [] in
    named_attr (codes "type") (codes "submit") rest (record { first = refl; later = refl }) (ascii_codes (codes "submit") refl) value

button_closed : IsClosedMarkup button
button_closed =
    let attrs = attr (codes "type") (Fixed (codes "submit")) ∷ attr (codes "value") (Fixed (codes "Continue")) ∷ [] in
    let tag : IsNameOf class.Tag (codes "input") = record { first = refl; later = refl } in
    let input : IsClosedMarkup (element (codes "input") attrs none none) = (tag, button_attrs, refl, (λ (h : true ≡ true). refl), tt, tt) in
    plain_closed (codes "p") (element (codes "input") attrs none none) none (record { first = refl; later = refl }) refl input tt

form_closed : (target : List ℕ) (items : Forest) → IsUtf8 target → IsClosedMarkup items → IsClosedMarkup (form (Fixed target) items)
form_closed target items u h =
    let tag : IsNameOf class.Tag (codes "form") = record { first = refl; later = refl } in
    let method =
    named_attr (codes "method") (codes "post") [] (record { first = refl; later = refl }) (ascii_codes (codes "post") refl) tt in
    let attrs =
    named_attr (codes "action") target (attr (codes "method") (Fixed (codes "post")) ∷ []) (record { first = refl; later = refl }) u method in
    (tag, attrs, refl, never_void (append items button) (codes "form") refl, append_closed items button h button_closed, tt)

page_root : (title body : Forest) → IsRoot (page title body)
page_root title body = ([], element (codes "head") [] (element (codes "title") [] title none) (element (codes "body") [] body none), refl)

pub shown_reads_back : ShownReadsBack
shown_reads_back title target d t u m n short =
    let c = close_markup d m in
    reads_back (show_page title target d) (page_closed title (form (Fixed target) (close d)) t (form_closed target (close d) u c))
    (page_root (text title none) (form (Fixed target) (close d)))
    (omega (arith, close_nest d, nest-append (close d) button)) short

pub last_reads_back : LastReadsBack
last_reads_back title d t m n short =
    let c = close_markup d m in
    reads_back (exit_page title d) (page_closed title (append (close d) none) t (append_closed (close d) none c tt))
    (page_root (text title none) (append (close d) none))
    (omega (arith, close_nest d, nest-append (close d) none)) short

-- ---- pages of a service

pub made_is_markup : MadeIsMarkup
made_is_markup _ _ (making.constant names bytes t h) = reads_markup names 64 bytes t h
made_is_markup _ _ (making.plug b a m n g p q) = plug_markup g a b (made_is_markup a n q) (made_is_markup b m p)
made_is_markup _ _ (making.fill b m g s u p) = plug_text_markup g s b u (made_is_markup b m p)

pub made_document : (d : Forest) (m : Measure) → IsMade d m → IsDocument d m
made_document _ _ (making.constant names bytes t h) = document.constant t
made_document _ _ (making.plug b a m n g p q) = document.plug b a m n g (made_document b m p) (made_document a n q)
made_document _ _ (making.fill b m g s u p) = document.fill b m g s (made_document b m p)

shown_markup : (d : Forest) → IsShown d → IsMarkup d
shown_markup d h = made_is_markup d h.measure h.made

shown_nest : (d : Forest) → IsShown d → nest d ≤ 500
shown_nest d h = omega (arith, nest_bounds d h.measure (made_document d h.measure h.made), h.within.nest)

pub word_below : (c : ℕ) → is_word_byte c ≡ true → c < 128
word_below c h = grind (arith, nat_tests)

pub digit_below : (c : ℕ) → is_digit c ≡ true → c < 128
digit_below c h = grind (arith, nat_tests)

pub hex_below : (c : ℕ) → is_hex_digit c ≡ true → c < 128
hex_below c h = grind (arith, nat_tests)

title_utf8 : (title : List ℕ) → IsTitle title → IsUtf8 title
title_utf8 title h = class_utf8 is_word_byte word_below title h.word

-- the target of a session's form, however long its numbers are
pub target_utf8 : (number key turn : List ℕ) → AllPass is_digit number → AllPass is_hex_digit key → AllPass is_digit turn → IsUtf8 (turn_target number key turn)
target_utf8 number key turn number_digits key_digits turn_digits =
    let n = class_utf8 is_digit digit_below number number_digits in
    let k = class_utf8 is_hex_digit hex_below key key_digits in
    let t = class_utf8 is_digit digit_below turn turn_digits in
    let last = IsUtf8-append (codes "/") turn (ascii_codes (codes "/") refl) t in
    let keyed = IsUtf8-append key (codes "/" ++ turn) k last in
    let dashed = IsUtf8-append (codes "-") (key ++ (codes "/" ++ turn)) (ascii_codes (codes "-") refl) keyed in
    let numbered = IsUtf8-append number (codes "-" ++ (key ++ (codes "/" ++ turn))) n dashed in
    IsUtf8-append (codes "/s/") (number ++ (codes "-" ++ (key ++ (codes "/" ++ turn)))) (ascii_codes (codes "/s/") refl) numbered

pub made_shown_reads_back : MadeShownReadsBack
made_shown_reads_back title number key turn d t s h =
    let size = turn_length title number key turn d t.word s.number_digits s.key_digits s.key_length s.turn_digits in
    let target = turn_target number key turn in
    shown_reads_back title target d (title_utf8 title t) (target_utf8 number key turn s.number_digits s.key_digits s.turn_digits)
    (shown_markup d h) (shown_nest d h)
    (omega (arith, size, t.short, s.number_short, s.turn_short, h.short))

pub made_last_reads_back : MadeLastReadsBack
made_last_reads_back title d t h =
    last_reads_back title d (title_utf8 title t) (shown_markup d h) (shown_nest d h) (omega (arith, exit_length title d t.word, t.short, h.short))
