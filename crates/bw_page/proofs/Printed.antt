-- Laws of printed documents.
use Rattle.std.proofs.Common.{◌≡◌, ℕ, ◌+◌, ◌<◌, ◌≤◌, true, false, arith, length-append, if◌then◌else◌, List, [], ◌∷◌, ◌++◌, length, get_or, take, drop, refl}
use Rattle.std.proofs.Common.{ap, sym, ◌∙◌}
use Rattle.std.proofs.lemmas.List.{append_assoc, append-nil, take_more, take-append-drop, flat_map_more, get_or_default}
use Rattle.bw_lang.specs.declared.items.Attr.{Attr}
use Rattle.bw_lang.specs.declared.items.AttrValue.TheVariants.{Fixed}
use Rattle.bw_lang.specs.declared.items.Item.{Item}
use Rattle.std.specs.Prelude.{codes}
use Rattle.bw_lang.specs.Document.Forest.{Forest, none, text, gap, element}
use Rattle.bw_lang.specs.Document.View.{forest, before}
use Rattle.bw_lang.specs.Document.Documents.{append}
use Rattle.bw_lang.proofs.Forests.{forest-take, forest-split, forest_at_read, size_at_read}
use Rattle.bw_lang.proofs.PrintLaws.{escaped-append}
use Rattle.bw_lang.specs.Template.Markup.{escaped, escaped_byte, is_void}
use Rattle.bw_lang.specs.Document.Print.{print, printed_attr, printed_attrs, printed_element, printed_start, printed_end}

pub print-append : (a b : Forest) → print (append a b) ≡ print a ++ print b
print-append none b = refl
print-append (text s r) b = ap (λ t. escaped s ++ t) (print-append r b) ∙ sym (append_assoc (escaped s) (print r) (print b))
print-append (gap g r) b = print-append r b
print-append (element t a i r) b =
    let e = printed_element t a (print i) in ap (λ x. e ++ x) (print-append r b) ∙ sym (append_assoc e (print r) (print b))

-- the items before a place, the item there and those behind it
pub print-parts : (xs : List Item) (i : ℕ) (x : Item) → x ≡ get_or xs i x → i < length xs → print (forest (take i xs))
    ++ (print (before x none) ++ print (forest (drop (i + 1) xs))) ≡ print (forest xs)
print-parts xs i x e h =
    sym (append_assoc (print (forest (take i xs))) (print (before x none)) (print (forest (drop (i + 1) xs))))
    ∙ ap (λ t. t ++ print (forest (drop (i + 1) xs))) (sym (print-append (forest (take i xs)) (before x none)) ∙ ap print (sym (forest-take xs i x e h)))
    ∙ sym (print-append (forest (take (i + 1) xs)) (forest (drop (i + 1) xs))) ∙ ap print (forest-split xs (i + 1))

-- the bytes before a place, the byte there and those behind it
pub escaped-parts : (xs : List ℕ) (i : ℕ) → i < length xs → escaped (take i xs) ++ (escaped_byte (get_or xs i 0) ++ escaped (drop (i + 1) xs)) ≡ escaped xs
escaped-parts xs i h =
    ap (λ t. escaped (take i xs) ++ (t ++ escaped (drop (i + 1) xs))) (sym (append-nil (escaped_byte (get_or xs i 0))))
    ∙ sym (append_assoc (escaped (take i xs)) (escaped (get_or xs i 0 ∷ [])) (escaped (drop (i + 1) xs)))
    ∙ ap (λ t. t ++ escaped (drop (i + 1) xs)) (sym (escaped-append (take i xs) (get_or xs i 0 ∷ [])) ∙ ap escaped (sym (take_more xs i 0 h)))
    ∙ sym (escaped-append (take (i + 1) xs) (drop (i + 1) xs)) ∙ ap escaped (take-append-drop (i + 1) xs)

pub escaped-more : (xs : List ℕ) (i : ℕ) → i < length xs → escaped (take i xs) ++ escaped_byte (get_or xs i 0) ≡ escaped (take (i + 1) xs)
escaped-more xs i h =
    ap (λ t. escaped (take i xs) ++ t) (sym (append-nil (escaped_byte (get_or xs i 0))))
    ∙ sym (escaped-append (take i xs) (get_or xs i 0 ∷ [])) ∙ ap escaped (sym (take_more xs i 0 h))

pub print-more : (xs : List Item) (i : ℕ) (x : Item) → x ≡ get_or xs i x → i < length xs → print (forest (take i xs))
    ++ print (before x none) ≡ print (forest (take (i + 1) xs))
print-more xs i x e h = sym (print-append (forest (take i xs)) (before x none)) ∙ ap print (sym (forest-take xs i x e h))

pub printed_attrs-append : (a b : List Attr) → printed_attrs (a ++ b) ≡ printed_attrs a ++ printed_attrs b
printed_attrs-append [] b = refl
printed_attrs-append (x ∷ a) b =
    let p = printed_attr x.name x.value in ap (λ t. p ++ t) (printed_attrs-append a b) ∙ sym (append_assoc p (printed_attrs a) (printed_attrs b))

pub printed_attrs-parts : (xs : List Attr) (i : ℕ) (x : Attr) → x ≡ get_or xs i x → i < length xs → printed_attrs (take i xs)
    ++ (printed_attr x.name x.value ++ printed_attrs (drop (i + 1) xs)) ≡ printed_attrs xs
printed_attrs-parts xs i x e h =
    let p = printed_attr x.name x.value in
    ap (λ t. printed_attrs (take i xs) ++ (t ++ printed_attrs (drop (i + 1) xs))) (sym (append-nil p))
    ∙ sym (append_assoc (printed_attrs (take i xs)) (printed_attrs (x ∷ [])) (printed_attrs (drop (i + 1) xs)))
    ∙ ap (λ t. t ++ printed_attrs (drop (i + 1) xs)) (sym (printed_attrs-append (take i xs) (x ∷ [])) ∙ ap (λ y. printed_attrs (take i xs ++ y ∷ [])) e
    ∙ ap printed_attrs (sym (take_more xs i x h)))
    ∙ sym (printed_attrs-append (take (i + 1) xs) (drop (i + 1) xs)) ∙ ap printed_attrs (take-append-drop (i + 1) xs)

pub printed_attrs-more : (xs : List Attr) (i : ℕ) (x : Attr) → x ≡ get_or xs i x → i < length xs → printed_attrs (take i xs)
    ++ printed_attr x.name x.value ≡ printed_attrs (take (i + 1) xs)
printed_attrs-more xs i x e h =
    ap (λ t. printed_attrs (take i xs) ++ t) (sym (append-nil (printed_attr x.name x.value)))
    ∙ sym (printed_attrs-append (take i xs) (x ∷ [])) ∙ ap (λ y. printed_attrs (take i xs ++ y ∷ [])) e ∙ ap printed_attrs (sym (take_more xs i x h))

-- the pieces of a start tag are its bytes
pub start_bytes : (tag given attrs : List ℕ) → given ≡ tag → (codes "<" ++ (given ++ [])) ++ attrs ≡ codes "<" ++ (tag ++ attrs)
start_bytes tag given attrs e = ap (λ t. (codes "<" ++ t) ++ attrs) (append-nil given ∙ e)

-- the pieces of an attribute are its bytes
pub attr_bytes : (name given value : List ℕ) → given ≡ name
    → (codes " " ++ (given ++ (codes "=\"" ++ []))) ++ (escaped value ++ codes "\"") ≡ printed_attr name (Fixed value)
attr_bytes name given value e =
    ap (λ n. codes " " ++ n) (append_assoc given (codes "=\"") (escaped value ++ codes "\"") ∙ ap (λ n. n ++ (codes "=\"" ++ (escaped value ++ codes "\""))) e)

-- an element with no end tag
pub void_bytes : (tag : List ℕ) (attrs : List Attr) (inner : Forest) → true ≡ is_void tag → printed_start tag attrs
    ++ codes "/>" ≡ print (element tag attrs inner none)
void_bytes tag attrs inner e =
    ap (λ b. printed_start tag attrs ++ (if b then codes "/>" else codes ">" ++ (print inner ++ printed_end tag))) e
    ∙ sym (append-nil (printed_element tag attrs (print inner)))

-- an element with its items and its end tag
pub open_bytes : (tag : List ℕ) (attrs : List Attr) (inner : Forest) → false ≡ is_void tag → printed_start tag attrs
    ++ (codes ">" ++ (print inner ++ printed_end tag)) ≡ print (element tag attrs inner none)
open_bytes tag attrs inner e =
    ap (λ b. printed_start tag attrs ++ (if b then codes "/>" else codes ">" ++ (print inner ++ printed_end tag))) e
    ∙ sym (append-nil (printed_element tag attrs (print inner)))

pub ruleset print_steps = (append-nil, append_assoc, forest_at_read, size_at_read, print-append)

-- the bytes before a place and at it are among all
pub print_room : (xs : List Item) (i : ℕ) (d : Item) → i < length xs → (get_or xs i d ≡ get_or xs i d)
    × (length (print (forest (take i xs))) + length (print (before (get_or xs i d) none)) ≤ length (print (forest xs)))
print_room xs i d h = (
  refl,
  omega (
    arith,
    ap length (print-parts xs i (get_or xs i d) (get_or_default xs i d (get_or xs i d) h) h),
    length-append (print (forest (take i xs))) (print (before (get_or xs i d) none) ++ print (forest (drop (i + 1) xs))),
    length-append (print (before (get_or xs i d) none)) (print (forest (drop (i + 1) xs))),
  ),
)

pub escaped_room : (xs : List ℕ) (i : ℕ) → i < length xs → (get_or xs i 0 ≡ get_or xs i 0)
    × (length (escaped (take i xs)) + length (escaped_byte (get_or xs i 0)) ≤ length (escaped xs))
escaped_room xs i h = (
  refl,
  omega (
    arith,
    ap length (escaped-parts xs i h),
    length-append (escaped (take i xs)) (escaped_byte (get_or xs i 0) ++ escaped (drop (i + 1) xs)),
    length-append (escaped_byte (get_or xs i 0)) (escaped (drop (i + 1) xs)),
  ),
)

pub attrs_room : (xs : List Attr) (i : ℕ) (d : Attr) → i < length xs → (get_or xs i d ≡ get_or xs i d)
    × (length (printed_attrs (take i xs)) + length (printed_attr (get_or xs i d).name (get_or xs i d).value) ≤ length (printed_attrs xs))
attrs_room xs i d h =
    let x = get_or xs i d in let p = printed_attr x.name x.value in (
      refl,
      omega (
        arith,
        ap length (printed_attrs-parts xs i x (get_or_default xs i d x h) h),
        length-append (printed_attrs (take i xs)) (p ++ printed_attrs (drop (i + 1) xs)),
        length-append p (printed_attrs (drop (i + 1) xs)),
      ),
    )

-- one more of each
pub print_at_read : (xs : List Item) (i : ℕ) (d : Item) → i < length xs → (get_or xs i d ≡ get_or xs i d)
    × (length (print (forest (take (i + 1) xs))) ≡ length (print (forest (take i xs))) + length (print (before (get_or xs i d) none)))
print_at_read xs i d h = (
  refl,
  ap length (sym (print-more xs i (get_or xs i d) (get_or_default xs i d (get_or xs i d) h) h))
      ∙ length-append (print (forest (take i xs))) (print (before (get_or xs i d) none)),
)

pub escaped_at_read : (xs : List ℕ) (i : ℕ) → i < length xs → (get_or xs i 0 ≡ get_or xs i 0)
    × (length (escaped (take (i + 1) xs)) ≡ length (escaped (take i xs)) + length (escaped_byte (get_or xs i 0)))
escaped_at_read xs i h = (refl, ap length (sym (escaped-more xs i h)) ∙ length-append (escaped (take i xs)) (escaped_byte (get_or xs i 0)))

pub attrs_at_read : (xs : List Attr) (i : ℕ) (d : Attr) → i < length xs → (get_or xs i d ≡ get_or xs i d)
    × (length (printed_attrs (take (i + 1) xs)) ≡ length (printed_attrs (take i xs)) + length (printed_attr (get_or xs i d).name (get_or xs i d).value))
attrs_at_read xs i d h = (
  refl,
  ap length (sym (printed_attrs-more xs i (get_or xs i d) (get_or_default xs i d (get_or xs i d) h) h))
      ∙ length-append (printed_attrs (take i xs)) (printed_attr (get_or xs i d).name (get_or xs i d).value),
)

pub ruleset length_steps = (size_at_read, print_room, escaped_room, attrs_room, print_at_read, escaped_at_read, attrs_at_read, length-append)
