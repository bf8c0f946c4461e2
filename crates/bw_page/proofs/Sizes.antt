-- How long pages are.
use Rattle.std.proofs.Common.{◌≡◌, ℕ, ◌+◌, Bool, true, false, ◌==◌, ◌&&◌, List, [], ◌∷◌, ◌++◌, length, refl, ap, ◌∙◌, codes, arith, length-append, suc, ◌*◌}
use Rattle.std.proofs.Common.{if◌then◌else◌}
use Rattle.std.specs.List.{AllPass, list_all}
use Rattle.std.proofs.lemmas.Bool.{eqb-true}
use Rattle.std.proofs.lemmas.List.Sums.{list_all-from_AllPass}
use Rattle.bw_lang.specs.declared.items.Attr.{Attr}
use Rattle.bw_lang.specs.declared.items.AttrValue.TheVariants.{Fixed}
use Rattle.bw_lang.specs.Document.Forest.{Forest, none, text, element}
use Rattle.bw_lang.specs.Document.Documents.{append, close}
use Rattle.bw_lang.specs.Template.Markup.{is_void, escaped, escaped_byte}
use Rattle.bw_lang.specs.Document.Print.{print, printed_attr, printed_attrs, printed_start, printed_end}
use Rattle.bw_lang.proofs.PrintLaws.{escaped-append, closed_alike}
use Rattle.bw_lang.specs.Text.Bytes.{is_word_byte, is_digit}
use Rattle.bw_page.specs.Bytes.{is_plain, is_hex_digit}
use Rattle.bw_lang.specs.Document.Wrappers.{button, attr}
use Rattle.bw_page.specs.Pages.{show_page, exit_page}
use Rattle.bw_page.specs.Laws.{ExitLength, ShowLength, TurnLength, turn_target}
use Rattle.bw_page.proofs.Printed.{print-append}

-- ---- what is printed as it is

-- the four bytes that are printed as references aren't among those of the class
record IsPlainClass (f : ℕ → Bool) : Type 0 where
  ampersand : f 38 ≡ false
  less : f 60 ≡ false
  greater : f 62 ≡ false
  quote : f 34 ≡ false

other_than : (f : ℕ → Bool) (c b : ℕ) → f c ≡ false → f b ≡ true → (b == c) ≡ false
other_than f c b n h = by_test (b == c) refl
  where
    by_test : (t : Bool) → (b == c) ≡ t → t ≡ false
    by_test true e = let k = eqb-true b c e in absurd (cc)
    by_test false e = refl

plain_byte : (f : ℕ → Bool) → IsPlainClass f → (b : ℕ) → f b ≡ true → escaped_byte b ≡ b ∷ []
plain_byte f p b h =
    by_tests (b == 38) (b == 60) (b == 62) (b == 34) (other_than f 38 b p.ampersand h) (other_than f 60 b p.less h) (other_than f 62 b p.greater h)
    (other_than f 34 b p.quote h)
  where
    by_tests : (a l g q : Bool) → a ≡ false → l ≡ false → g ≡ false → q ≡ false
        → (if a then codes "&amp;" else (if l then codes "&lt;" else (if g then codes "&gt;" else (if q then codes "&quot;" else b ∷ [])))) ≡ b ∷ []
    by_tests a l g q ea el eg eq = rw (ea, el, eg, eq)

plain_listed : (f : ℕ → Bool) → IsPlainClass f → (s : List ℕ) → list_all f s ≡ true → length (escaped s) ≡ length s
plain_listed f p [] h = refl
plain_listed f p (b ∷ s) h =
    by_test (f b) refl h (plain_listed f p s)
  where
    by_test : (t : Bool) → f b ≡ t → (t && list_all f s) ≡ true → (list_all f s ≡ true → length (escaped s) ≡ length s)
        → length (escaped_byte b ++ escaped s) ≡ length (b ∷ s)
    by_test true e k more = ap (λ x. length (x ++ escaped s)) (plain_byte f p b e) ∙ ap suc (more k)
    by_test false e k more = absurd (cc)

-- a text of the class has the length of what it prints to
escaped_length : (f : ℕ → Bool) → IsPlainClass f → (s : List ℕ) → AllPass f s → length (escaped s) ≡ length s
escaped_length f p s h = plain_listed f p s (list_all-from_AllPass f s h)

digits_are_plain : IsPlainClass is_digit
digits_are_plain = record { ampersand = refl; less = refl; greater = refl; quote = refl }

hex_digits_are_plain : IsPlainClass is_hex_digit
hex_digits_are_plain = record { ampersand = refl; less = refl; greater = refl; quote = refl }

words_are_plain : IsPlainClass is_word_byte
words_are_plain = record { ampersand = refl; less = refl; greater = refl; quote = refl }

plain_is_plain : IsPlainClass is_plain
plain_is_plain = record { ampersand = refl; less = refl; greater = refl; quote = refl }

-- ---- elements

attr_size : (name value : List ℕ) → length (printed_attr name (Fixed value)) ≡ 4 + length name + length (escaped value)
attr_size name value =
    omega (arith, length-append name (codes "=\"" ++ (escaped value ++ codes "\"")), length-append (escaped value) (codes "\""))

attrs_size : (name value name2 value2 : List ℕ) → length
    (printed_attrs (attr name (Fixed value) ∷ attr name2 (Fixed value2) ∷ [])) ≡ 8 + length name + length name2 + length (escaped value2) + length
    (escaped value)
attrs_size name value name2 value2 =
    let p = printed_attr name (Fixed value) in let q = printed_attr name2 (Fixed value2) in
    length-append p (q ++ []) ∙ omega (arith, length-append q [], attr_size name value, attr_size name2 value2)

element_size : (tag : List ℕ) (attrs : List Attr) (inner rest : Forest) → is_void tag ≡ false
    → length (print (element tag attrs inner rest)) ≡ 5 + 2 * length tag + length (printed_attrs attrs) + length (print inner) + length (print rest)
element_size tag attrs inner rest e =
    let start = printed_start tag attrs in let more = codes ">" ++ (print inner ++ printed_end tag) in
    ap (λ b. length ((start ++ (if b then codes "/>" else more)) ++ print rest)) e
    ∙ omega (
      arith,
      length-append (start ++ more) (print rest),
      length-append start more,
      length-append tag (printed_attrs attrs),
      length-append (print inner) (printed_end tag),
      length-append tag (codes ">"),
    )

page_size : (html head title body : List ℕ) → is_void html ≡ false → is_void head ≡ false → is_void title ≡ false → is_void body ≡ false → (t b : Forest)
    → length (print (element html [] (element head [] (element title [] t none) (element body [] b none)) none)) ≡ 20 + 2 *
    (length html + length head + length title + length body) + length (print t) + length (print b)
page_size html head title body h e i o t b =
    let first = element title [] t none in let second = element body [] b none in let inner = element head [] first second in
    omega (arith, element_size html [] inner none h, element_size head [] first second e, element_size title [] t none i, element_size body [] b none o)

-- ---- pages

text_size : (s : List ℕ) → length (print (text s none)) ≡ length (escaped s)
text_size s = omega (arith, length-append (escaped s) [])

closed_size : (d e : Forest) → length (print (append (close d) e)) ≡ length (print d) + length (print e)
closed_size d e = ap length (print-append (close d) e ∙ ap (λ x. x ++ print e) (closed_alike d)) ∙ length-append (print d) (print e)

exit_size : (title : List ℕ) (d : Forest) → length (print (exit_page title d)) ≡ 54 + length (escaped title) + length (print d)
exit_size title d =
    page_size (codes "html") (codes "head") (codes "title") (codes "body") refl refl refl refl (text title none) (append (close d) none)
    ∙ omega (arith, text_size title, closed_size d none)

pub exit_length : ExitLength
exit_length title d w = exit_size title d ∙ omega (arith, escaped_length is_word_byte words_are_plain title w)

show_size : (title target : List ℕ) (d : Forest) → length (print (show_page title target d)) ≡ 137 + length (escaped title) + length
    (escaped target) + length (print d)
show_size title target d =
    let items = append (close d) button in
    let attrs = attr (codes "action") (Fixed target) ∷ attr (codes "method") (Fixed (codes "post")) ∷ [] in
    page_size (codes "html") (codes "head") (codes "title") (codes "body") refl refl refl refl (text title none) (element (codes "form") attrs items none)
    ∙ omega (
      arith,
      text_size title,
      element_size (codes "form") attrs items none refl,
      attrs_size (codes "action") target (codes "method") (codes "post"),
      closed_size d button,
    )

pub show_length : ShowLength
show_length title target d w p =
    show_size title target d ∙ omega (arith, escaped_length is_word_byte words_are_plain title w, escaped_length is_plain plain_is_plain target p)

target_size : (number key turn : List ℕ) → length (escaped (turn_target number key turn)) ≡ 5 + length (escaped number) + length (escaped key) + length
    (escaped turn)
target_size number key turn =
    let last = codes "/" ++ turn in let more = codes "-" ++ (key ++ last) in
    omega (
      arith,
      ap length (escaped-append number more),
      length-append (escaped number) (escaped more),
      ap length (escaped-append key last),
      length-append (escaped key) (escaped last),
    )

pub turn_length : TurnLength
turn_length title number key turn d w n k sixteen t =
    show_size title (turn_target number key turn) d
    ∙ omega (
      arith,
      sixteen,
      target_size number key turn,
      escaped_length is_word_byte words_are_plain title w,
      escaped_length is_digit digits_are_plain number n,
      escaped_length is_hex_digit hex_digits_are_plain key k,
      escaped_length is_digit digits_are_plain turn t,
    )
