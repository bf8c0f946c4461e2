-- Pages, and the forms in them.
use Rattle.std.proofs.Common.{◌≡◌, ℕ, Bool, true, false, List, [], ◌∷◌, ◌++◌, refl, ap, sym, ◌∙◌, Option, Some, None}
use Rattle.std.specs.Prelude.{codes, if◌then◌else◌, Ok}
use Rattle.std.specs.Option.{option_or, option_map, option_to_list}
use Rattle.std.proofs.lemmas.List.{append-nil, append_assoc}
use Rattle.bw_lang.specs.declared.items.Attr.{Attr}
use Rattle.bw_lang.specs.declared.items.Element.{Element}
use Rattle.bw_lang.specs.declared.controls.FieldKind.{FieldKind}
use Rattle.bw_lang.specs.Document.Documents as doc
use Rattle.bw_lang.specs.Document.Forest.{Forest, none, text, gap, element}
use Rattle.bw_lang.specs.Document.Print.{text_before, joined}
use Rattle.bw_lang.specs.Table.Names.{same}
use Rattle.bw_lang.specs.Template.Controls.{fields, field_of, control_name, control_names, field_kind}
use Rattle.bw_meaning.specs.States.{Form}
use Rattle.bw_page.specs.Pages.{show_page}
use Rattle.bw_read.proofs.Joining.{joins_no_field}
use Rattle.bw_agent.specs.declared.control.Control.{Control}
use Rattle.bw_agent.specs.declared.control.Offer.{Offer}
use Rattle.bw_agent.specs.Controls.{text_in, has, value_or, option_of, options, input_offer, area_offer, offers_of, named_control, control_of, controls}
use Rattle.bw_agent.specs.Filled.{filled, body_of, unknown}
use Rattle.bw_agent.specs.Fills.{fills, fills_form, unless_unknown, sent_by}
use Rattle.bw_agent.specs.Forms.{is_form, form_in}
use Rattle.bw_agent.specs.Laws.{JoiningSendsTheSame, IsFormOf, ShownPagesHaveForms, ReadPagesHaveForms}

-- ---- texts that are joined

text_text : (s : List ℕ) (d : Forest) → text_in (text_before s d) ≡ s ++ text_in d
text_text [] d = refl
text_text (b ∷ s) none = refl
text_text (b ∷ s) (text t d) = append_assoc (b ∷ s) t (text_in d)
text_text (b ∷ s) (gap g d) = refl
text_text (b ∷ s) (element tag attrs inner d) = refl

pub text_joined : (d : Forest) → text_in (joined d) ≡ text_in d
text_joined none = refl
text_joined (text s d) = text_text s (joined d) ∙ ap (λ l. s ++ l) (text_joined d)
text_joined (gap g d) = text_joined d
text_joined (element tag attrs inner d) = λ i. text_joined inner i ++ text_joined d i

options_text : (s : List ℕ) (d : Forest) → options (text_before s d) ≡ options d
options_text [] d = refl
options_text (b ∷ s) none = refl
options_text (b ∷ s) (text t d) = refl
options_text (b ∷ s) (gap g d) = refl
options_text (b ∷ s) (element tag attrs inner d) = refl

option_joined : (tag : List ℕ) (attrs : List Attr) (d : Forest) → option_of tag attrs (joined d) ≡ option_of tag attrs d
option_joined tag attrs d =
    ap (λ t. if same tag (codes "option") then record { value = value_or (codes "value") t attrs; chosen = has (codes "selected") attrs } ∷ [] else [])
    (text_joined d)

options_joined : (d : Forest) → options (joined d) ≡ options d
options_joined none = refl
options_joined (text s d) = options_text s (joined d) ∙ options_joined d
options_joined (gap g d) = options_joined d
options_joined (element tag attrs inner d) = λ i. option_joined tag attrs inner i ++ (options_joined inner i ++ options_joined d i)

offers_joined : (tag : List ℕ) (attrs : List Attr) (d : Forest) → offers_of tag attrs (joined d) ≡ offers_of tag attrs d
offers_joined tag attrs d =
    λ i. if same tag (codes "input") then input_offer attrs ∷ [] else
    if same tag (codes "select") then options_joined d i else (record { value = text_joined d i; chosen = true }) ∷ []

controls_text : (s : List ℕ) (d : Forest) → controls (text_before s d) ≡ controls d
controls_text [] d = refl
controls_text (b ∷ s) none = refl
controls_text (b ∷ s) (text t d) = refl
controls_text (b ∷ s) (gap g d) = refl
controls_text (b ∷ s) (element tag attrs inner d) = refl

control_joined : (tag : List ℕ) (attrs : List Attr) (d : Forest) → control_of tag attrs (joined d) ≡ control_of tag attrs d
control_joined tag attrs d = ap (named_control (control_name tag attrs) (field_kind tag attrs)) (offers_joined tag attrs d)

pub controls_joined : (d : Forest) → controls (joined d) ≡ controls d
controls_joined none = refl
controls_joined (text s d) = controls_text s (joined d) ∙ controls_joined d
controls_joined (gap g d) = controls_joined d
controls_joined (element tag attrs inner d) = λ i. control_joined tag attrs inner i ++ (controls_joined inner i ++ controls_joined d i)

names_text : (s : List ℕ) (d : Forest) → control_names (text_before s d) ≡ control_names d
names_text [] d = refl
names_text (b ∷ s) none = refl
names_text (b ∷ s) (text t d) = refl
names_text (b ∷ s) (gap g d) = refl
names_text (b ∷ s) (element tag attrs inner d) = refl

names_joined : (d : Forest) → control_names (joined d) ≡ control_names d
names_joined none = refl
names_joined (text s d) = names_text s (joined d) ∙ names_joined d
names_joined (gap g d) = names_joined d
names_joined (element tag attrs inner d) =
    λ i. option_to_list (control_name tag attrs) ++ (names_joined inner i ++ names_joined d i)

-- ---- the form of a page that is read back

abbrev pub joined_form : Element → Element
joined_form e = record { tag = e.tag; attrs = e.attrs; items = joined e.items }

form_text : (s : List ℕ) (d : Forest) → form_in (text_before s d) ≡ form_in d
form_text [] d = refl
form_text (b ∷ s) none = refl
form_text (b ∷ s) (text t d) = refl
form_text (b ∷ s) (gap g d) = refl
form_text (b ∷ s) (element tag attrs inner d) = refl

first_joined : (o p : Option Element) → option_or (option_map joined_form o) (option_map joined_form p) ≡ option_map joined_form (option_or o p)
first_joined None p = refl
first_joined (Some e) p = refl

form_here : (b : Bool) (e : Element) (o p : Option Element) → o ≡ option_map joined_form p
    → (if b then Some (joined_form e) else o) ≡ option_map joined_form (if b then Some e else p)
form_here true e o p h = refl
form_here false e o p h = h

pub form_joined : (d : Forest) → form_in (joined d) ≡ option_map joined_form (form_in d)
form_joined none = refl
form_joined (text s d) = form_text s (joined d) ∙ form_joined d
form_joined (gap g d) = form_joined d
form_joined (element tag attrs inner d) =
    form_here (is_form tag attrs) (record { tag = tag; attrs = attrs; items = inner }) (option_or (form_in (joined inner)) (form_in (joined d)))
    (option_or (form_in inner) (form_in d))
    ((λ i. option_or (form_joined inner i) (form_joined d i)) ∙ first_joined (form_in inner) (form_in d))

sends_alike : (e : Element) (answers : Form) (o : Option (List ℕ)) → unless_unknown o (joined_form e) answers ≡ unless_unknown o e answers
sends_alike e answers None =
    ap (λ cs. Ok (record { target = value_or (codes "action") [] e.attrs; body = body_of (filled cs answers) })) (controls_joined e.items)
sends_alike e answers (Some n) = refl

fills_alike : (o : Option Element) (answers : Form) → fills_form (option_map joined_form o) answers ≡ fills_form o answers
fills_alike None answers = refl
fills_alike (Some e) answers =
    sends_alike e answers (unknown (control_names (joined e.items)) answers)
    ∙ ap (λ ns. unless_unknown (unknown ns answers) e answers) (names_joined e.items)

pub joining_sends_the_same : JoiningSendsTheSame
joining_sends_the_same d answers = ap (λ o. fills_form o answers) (form_joined d) ∙ fills_alike (form_in d) answers

-- ---- the form of a shown page

nils : (xs : List (List ℕ × FieldKind)) → xs ≡ ((xs ++ []) ++ []) ++ []
nils xs = sym (append-nil xs) ∙ sym (append-nil (xs ++ [])) ∙ sym (append-nil ((xs ++ []) ++ []))

pub shown_pages_have_forms : ShownPagesHaveForms
shown_pages_have_forms title target d = (_, record { is = refl; target_is = refl; fields_are = nils _ })

pub read_pages_have_forms : ReadPagesHaveForms
read_pages_have_forms title target d =
    let shown = shown_pages_have_forms title target d in
    let page = show_page title target d in (
      joined_form shown.0,
      record {
        is = form_joined page ∙ ap (option_map joined_form) shown.1.is;
        target_is = shown.1.target_is;
        fields_are = joins_no_field shown.0.items ∙ shown.1.fields_are ∙ sym (joins_no_field page);
      },
    )
