-- What is sent is UTF-8.
use Rattle.std.proofs.Common.{◌≡◌, arith, ℕ, Bool, true, false, List, [], ◌∷◌, ◌++◌, map, subst, Option, Some, None}
use Rattle.std.specs.Prelude.{if◌then◌else◌, codes, filter, flat_map, IsUtf8, slice_get, unwrap_or, not}
use Rattle.std.specs.List.{AllByRecursion, list_any}
use Rattle.std.specs.Option.{option_or}
use Rattle.std.proofs.lemmas.Str.{IsUtf8-nil, IsUtf8-append, IsUtf8-from_ascii}
use Rattle.std.proofs.lemmas.Str.Ascii.{IsAscii-nil, IsAscii-cons}
use Rattle.bw_lang.specs.declared.controls.FieldKind.{FieldKind}
use Rattle.bw_lang.specs.declared.controls.FieldKind.TheVariants.{Single, Choice, Many}
use Rattle.bw_lang.specs.declared.items.Attr.{Attr}
use Rattle.bw_lang.specs.declared.items.AttrValue.{AttrValue}
use Rattle.bw_lang.specs.declared.items.AttrValue.TheVariants as value
use Rattle.bw_lang.specs.declared.items.Element.{Element}
use Rattle.bw_lang.specs.Document.Forest.{Forest, none, text, gap, element}
use Rattle.bw_lang.specs.Service.Submissions.{IsTextForm, values_of}
use Rattle.bw_lang.specs.Table.Names.{same, with_name}
use Rattle.bw_lang.specs.Template.Controls.{fixed, fixed_value, unless_empty, control_name, is_control, field_kind}
use Rattle.bw_meaning.specs.States.{Form}
use Rattle.bw_tmpl.specs.Markup.{IsValueOf, AreAttrs, MarkupWith, IsMarkup}
use Rattle.bw_agent.specs.declared.control.Control.{Control}
use Rattle.bw_agent.specs.declared.control.Offer.{Offer}
use Rattle.bw_agent.specs.Controls.{text_in, has, value_or, option_of, options, value_of_type, input_offer, area_offer, offers_of, named_control}
use Rattle.bw_agent.specs.Controls.{control_of, controls}
use Rattle.bw_agent.specs.Filled.{offered, chosen, one_of, many_of, offers_for, values_at, pairs_of, pairs_at, pairs_from, filled}
use Rattle.bw_agent.specs.Forms.{is_form, form_in}
use Rattle.bw_agent.specs.Laws.{ArePairsOfText, MarkupSendsText, FormsAreMarkup}

abbrev TextIf : Option (List ℕ) → Type 0
TextIf None = Unit {0}
TextIf (Some v) = IsUtf8 v

abbrev AreTexts : List (List ℕ) → Type 0
AreTexts texts = AllByRecursion IsUtf8 texts

abbrev OfferText : List Offer → Type 0
OfferText offers = AllByRecursion (λ (o : Offer). IsUtf8 o.value) offers

abbrev AreOfText : List Control → Type 0
AreOfText controls = AllByRecursion (λ (c : Control). IsUtf8 c.name × OfferText c.offers) controls

-- ---- lists

either : {A : Type 0} (P : A → Type 0) (b : Bool) (x y : A) → P x → P y → P (if b then x else y)
either P true x y h k = h
either P false x y h k = k

all_append : {A : Type 0} (P : A → Type 0) (xs ys : List A) → AllByRecursion P xs → AllByRecursion P ys → AllByRecursion P (xs ++ ys)
all_append P [] ys h k = k
all_append P (x ∷ xs) ys h k = (h.0, all_append P xs ys h.1 k)

all_filter : {A : Type 0} (P : A → Type 0) (f : A → Bool) (xs : List A) → AllByRecursion P xs → AllByRecursion P (filter f xs)
all_filter P f [] h = h
all_filter P f (x ∷ xs) h =
    either (AllByRecursion P) (f x) (x ∷ filter f xs) (filter f xs) (h.0, all_filter P f xs h.1) (all_filter P f xs h.1)

all_map : {A B : Type 0} (P : B → Type 0) (f : A → B) (xs : List A) → AllByRecursion (λ x. P (f x)) xs → AllByRecursion P (map f xs)
all_map P f [] h = h
all_map P f (x ∷ xs) h = (h.0, all_map P f xs h.1)

-- ---- what controls may send

value_text : (G : Type 0) (v : AttrValue) → IsValueOf G v → TextIf (fixed_value v)
value_text G (value.Fixed v) h = h
value_text G (value.Hole g) h = tt

fixed_text : (G : Type 0) (name : List ℕ) (attrs : List Attr) → AreAttrs G attrs → TextIf (fixed name attrs)
fixed_text G name [] h = tt
fixed_text G name (a ∷ attrs) h =
    either TextIf (same a.name name) (fixed_value a.value) (fixed name attrs) (value_text G a.value h.1) (fixed_text G name attrs h.2)

or_text : (o : Option (List ℕ)) (other : List ℕ) → TextIf o → IsUtf8 other → IsUtf8 (unwrap_or o other)
or_text None other h k = k
or_text (Some v) other h k = h

text_text : (G : Type 0) (d : Forest) → MarkupWith G d → IsUtf8 (text_in d)
text_text G none h = IsUtf8-nil
text_text G (text s d) h = IsUtf8-append s (text_in d) h.0 (text_text G d h.1)
text_text G (gap g d) h = text_text G d h.1
text_text G (element tag attrs inner d) h =
    IsUtf8-append (text_in inner) (text_in d) (text_text G inner h.4) (text_text G d h.5)

option_text : (G : Type 0) (tag : List ℕ) (attrs : List Attr) (d : Forest) → AreAttrs G attrs → MarkupWith G d → OfferText (option_of tag attrs d)
option_text G tag attrs d a h =
    either OfferText (same tag (codes "option")) (record { value = value_or (codes "value") (text_in d) attrs; chosen = has (codes "selected") attrs } ∷ []) []
    (or_text (fixed (codes "value") attrs) (text_in d) (fixed_text G (codes "value") attrs a) (text_text G d h), tt) tt

options_text : (G : Type 0) (d : Forest) → MarkupWith G d → OfferText (options d)
options_text G none h = tt
options_text G (text s d) h = options_text G d h.1
options_text G (gap g d) h = options_text G d h.1
options_text G (element tag attrs inner d) h =
    all_append (λ (o : Offer). IsUtf8 o.value) (option_of tag attrs inner) (options inner ++ options d) (option_text G tag attrs inner h.1 h.4)
    (all_append (λ (o : Offer). IsUtf8 o.value) (options inner) (options d) (options_text G inner h.4) (options_text G d h.5))

on_text : IsUtf8 (codes "on")
on_text = IsUtf8-from_ascii (codes "on") (IsAscii-cons 111 (110 ∷ []) (omega arith) (IsAscii-cons 110 [] (omega arith) IsAscii-nil))

type_text : (o : Option (List ℕ)) → IsUtf8 (value_of_type o)
type_text None = IsUtf8-nil
type_text (Some t) = either IsUtf8 _ (codes "on") [] on_text IsUtf8-nil

input_text : (G : Type 0) (attrs : List Attr) → AreAttrs G attrs → IsUtf8 (input_offer attrs).value
input_text G attrs a =
    or_text (fixed (codes "value") attrs) (value_of_type (fixed (codes "type") attrs)) (fixed_text G (codes "value") attrs a)
    (type_text (fixed (codes "type") attrs))

offers_text : (G : Type 0) (tag : List ℕ) (attrs : List Attr) (d : Forest) → AreAttrs G attrs → MarkupWith G d → OfferText (offers_of tag attrs d)
offers_text G tag attrs d a h =
    either OfferText (same tag (codes "input")) (input_offer attrs ∷ []) _ (input_text G attrs a, tt)
    (either OfferText (same tag (codes "select")) (options d) (area_offer d ∷ []) (options_text G d h) (text_text G d h, tt))

full_text : (o : Option (List ℕ)) → TextIf o → TextIf (unless_empty o)
full_text None h = tt
full_text (Some []) h = tt
full_text (Some (b ∷ s)) h = h

name_text : (G : Type 0) (tag : List ℕ) (attrs : List Attr) → AreAttrs G attrs → TextIf (control_name tag attrs)
name_text G tag attrs a =
    either TextIf (is_control tag) (unless_empty (fixed (codes "name") attrs)) None
    (full_text (fixed (codes "name") attrs) (fixed_text G (codes "name") attrs a)) tt

named_text : (o : Option (List ℕ)) (k : Option FieldKind) (offers : List Offer) → TextIf o → OfferText offers → AreOfText (named_control o k offers)
named_text None k offers h a = tt
named_text (Some n) None offers h a = tt
named_text (Some n) (Some k) offers h a = ((h, a), tt)

controls_text : (G : Type 0) (d : Forest) → MarkupWith G d → AreOfText (controls d)
controls_text G none h = tt
controls_text G (text s d) h = controls_text G d h.1
controls_text G (gap g d) h = controls_text G d h.1
controls_text G (element tag attrs inner d) h =
    all_append (λ (c : Control). IsUtf8 c.name × OfferText c.offers) (control_of tag attrs inner) (controls inner ++ controls d)
    (named_text (control_name tag attrs) (field_kind tag attrs) (offers_of tag attrs inner) (name_text G tag attrs h.1)
    (offers_text G tag attrs inner h.1 h.4))
    (all_append (λ (c : Control). IsUtf8 c.name × OfferText c.offers) (controls inner) (controls d) (controls_text G inner h.4) (controls_text G d h.5))

-- ---- what they send

offered_text : (offers : List Offer) → OfferText offers → AreTexts (offered offers)
offered_text offers h = all_map IsUtf8 (λ (o : Offer). o.value) offers h

chosen_text : (offers : List Offer) → OfferText offers → AreTexts (chosen offers)
chosen_text offers h = offered_text (filter (λ (o : Offer). o.chosen) offers) (all_filter (λ (o : Offer). IsUtf8 o.value) (λ (o : Offer). o.chosen) offers h)

first_text : (texts : List (List ℕ)) → AreTexts texts → IsUtf8 (unwrap_or (slice_get texts 0) [])
first_text [] h = IsUtf8-nil
first_text (t ∷ texts) h = h.0

one_text : (given : List (List ℕ)) (offers : List Offer) → AreTexts given → OfferText offers → IsUtf8 (one_of given offers)
one_text given offers h k =
    first_text (given ++ (chosen offers ++ offered offers))
    (all_append IsUtf8 given (chosen offers ++ offered offers) h
    (all_append IsUtf8 (chosen offers) (offered offers) (chosen_text offers k) (offered_text offers k)))

many_text : (given : List (List ℕ)) (offers : List Offer) → AreTexts given → OfferText offers → AreTexts (many_of given offers)
many_text [] offers h k = chosen_text offers k
many_text (v ∷ given) offers h k = h

together_text : (cs : List Control) → AreOfText cs → OfferText (flat_map (λ (c : Control). c.offers) cs)
together_text [] h = tt
together_text (c ∷ cs) h =
    all_append (λ (o : Offer). IsUtf8 o.value) c.offers (flat_map (λ (x : Control). x.offers) cs) h.0.1 (together_text cs h.1)

for_text : (name : List ℕ) (cs : List Control) → AreOfText cs → OfferText (offers_for name cs)
for_text name cs h =
    together_text (filter (λ (c : Control). same name c.name) cs)
    (all_filter (λ (c : Control). IsUtf8 c.name × OfferText c.offers) (λ (c : Control). same name c.name) cs h)

given_text : (name : List ℕ) (form : Form) → IsTextForm form → AreTexts (values_of name form)
given_text name form h =
    all_map IsUtf8 (λ (pair : List ℕ × List ℕ). pair.1) _
    (all_filter (λ (pair : List ℕ × List ℕ). IsUtf8 pair.1) (λ (pair : List ℕ × List ℕ). same name pair.0) form h)

at_text : (k : FieldKind) (first : Bool) (given : List (List ℕ)) (own together : List Offer) → AreTexts given → OfferText own → OfferText together
    → AreTexts (values_at k first given own together)
at_text Single first given own together h a b = (one_text given own h a, tt)
at_text Choice true given own together h a b = (one_text given together h b, tt)
at_text Choice false given own together h a b = tt
at_text Many true given own together h a b = many_text given together h b
at_text Many false given own together h a b = tt

pairs_text : (n : List ℕ) (vs : List (List ℕ)) → IsUtf8 n → AreTexts vs → ArePairsOfText (pairs_of n vs)
pairs_text n [] h k = tt
pairs_text n (v ∷ vs) h k = ((h, k.0), pairs_text n vs h k.1)

from_text : (answers : Form) (all : List Control) (seen : List (List ℕ)) (cs : List Control) → IsTextForm answers → AreOfText all → AreOfText cs
    → ArePairsOfText (pairs_from answers all seen cs)
from_text answers all seen [] h a k = tt
from_text answers all seen (c ∷ cs) h a k =
    let is_first = not (list_any (same c.name) seen) in
    let given = values_of c.name answers in
    let together = offers_for c.name all in
    all_append (λ (pair : List ℕ × List ℕ). IsUtf8 pair.0 × IsUtf8 pair.1) (pairs_at answers all is_first c)
    (pairs_from answers all (with_name seen c.name) cs)
    (pairs_text c.name (values_at c.kind is_first given c.offers together) k.0.0
    (at_text c.kind is_first given c.offers together (given_text c.name answers h) k.0.1 (for_text c.name all a)))
    (from_text answers all (with_name seen c.name) cs h a k.1)

pub markup_sends_text : MarkupSendsText
markup_sends_text d answers m h = let cs = controls_text (Unit {0}) d m in from_text answers (controls d) [] (controls d) h cs cs

-- ---- the form

abbrev MarkupIf : Option Element → Type 0
MarkupIf None = Unit {0}
MarkupIf (Some form) = IsMarkup form.items

first_markup : (o p : Option Element) → MarkupIf o → MarkupIf p → MarkupIf (option_or o p)
first_markup None p h k = k
first_markup (Some e) p h k = h

form_markup : (d : Forest) → IsMarkup d → MarkupIf (form_in d)
form_markup none h = tt
form_markup (text s d) h = form_markup d h.1
form_markup (gap g d) h = form_markup d h.1
form_markup (element tag attrs inner d) h =
    let rest = option_or (form_in inner) (form_in d) in
    either MarkupIf (is_form tag attrs) (Some (record { tag = tag; attrs = attrs; items = inner })) rest h.4
    (first_markup (form_in inner) (form_in d) (form_markup inner h.4) (form_markup d h.5))

pub forms_are_markup : FormsAreMarkup
forms_are_markup d form h e = subst MarkupIf e (form_markup d h)
