-- Laws of forms that are filled in, and of the pages that they stand in.
use Rattle.std.specs.Prelude.{◌≡◌, ℕ, ◌⊎◌, Bool, true, false, ◌||◌, not, List, [], codes, map, length, count_by, Some, IsUtf8}
use Rattle.std.specs.List.{list_all, list_any, AllByRecursion}
use Rattle.bw_lang.specs.declared.controls.FieldKind.{FieldKind}
use Rattle.bw_lang.specs.declared.controls.FieldKind.TheVariants.{Single, Choice, Many}
use Rattle.bw_lang.specs.declared.items.Element.{Element}
use Rattle.bw_lang.specs.Document.Forest.{Forest}
use Rattle.bw_lang.specs.Document.Print.{joined}
use Rattle.bw_lang.specs.Service.Submissions.{IsTextForm, values_of}
use Rattle.bw_lang.specs.Table.Names.{same}
use Rattle.bw_lang.specs.Template.Controls.{fields}
use Rattle.bw_meaning.specs.States.{Form}
use Rattle.bw_page.specs.Pages.{show_page}
use Rattle.bw_tmpl.specs.Markup.{IsMarkup}
use Rattle.bw_agent.specs.declared.control.Control.{Control}
use Rattle.bw_agent.specs.Controls.{controls, value_or}
use Rattle.bw_agent.specs.Filled.{filled}
use Rattle.bw_agent.specs.Fills.{fills}
use Rattle.bw_agent.specs.Forms.{form_in}

-- ---- what is sent

-- the name and the kind of a control's field
abbrev pub field_of : Control → List ℕ × FieldKind
field_of c = (c.name, c.kind)

-- the controls are those that the fields are of
abbrev pub ControlsAreFields : Type 0
ControlsAreFields = (d : Forest) → map field_of (controls d) ≡ fields d

abbrev pub is_single : FieldKind → Bool
is_single Single = true
is_single Choice = false
is_single Many = false

abbrev pub is_choice : FieldKind → Bool
is_choice Single = false
is_choice Choice = true
is_choice Many = false

-- each field of that name has a kind that passes the test
abbrev pub kinds_pass : (FieldKind → Bool) → List ℕ → List (List ℕ × FieldKind) → Bool
kinds_pass test name fields = list_all (λ (f : List ℕ × FieldKind). not (same f.0 name) || test f.1) fields

-- how many fields of that name there are
abbrev pub count_of : List ℕ → List (List ℕ × FieldKind) → ℕ
count_of name fields = count_by (λ (f : List ℕ × FieldKind). same f.0 name) fields

-- whatever is answered, a field whose controls take one value each is sent once for each of them
abbrev pub SingleIsSent : Type 0
SingleIsSent =
    (d : Forest) (name : List ℕ) (answers : Form) → kinds_pass is_single name (fields d) ≡ true
    → length (values_of name (filled (controls d) answers)) ≡ count_of name (fields d)

-- and a field of whose controls one is chosen is sent once, where there is one
abbrev pub ChoiceIsSent : Type 0
ChoiceIsSent =
    (d : Forest) (name : List ℕ) (answers : Form) → kinds_pass is_choice name (fields d) ≡ true
    → list_any (λ (f : List ℕ × FieldKind). same f.0 name) (fields d) ≡ true
    → length (values_of name (filled (controls d) answers)) ≡ 1

-- ---- pages

-- what a page sends is sent by the page that it reads back as
abbrev pub JoiningSendsTheSame : Type 0
JoiningSendsTheSame = (d : Forest) (answers : Form) → fills (joined d) answers ≡ fills d answers

-- the form of a page, which leads to this target and has all fields of the page
pub record IsFormOf (target : List ℕ) (page : Forest) (form : Element) : Type 0 where
  pub is : form_in page ≡ Some form
  pub target_is : value_or (codes "action") [] form.attrs ≡ target
  pub fields_are : fields form.items ≡ fields page

-- a shown page has such a form
abbrev pub ShownPagesHaveForms : Type 0
ShownPagesHaveForms = (title target : List ℕ) (d : Forest) → (form : Element) × IsFormOf target (show_page title target d) form

-- and so has what it reads back as
abbrev pub ReadPagesHaveForms : Type 0
ReadPagesHaveForms = (title target : List ℕ) (d : Forest) → (form : Element) × IsFormOf target (joined (show_page title target d)) form

-- ---- UTF-8

-- names and values are UTF-8
abbrev pub ArePairsOfText : Form → Type 0
ArePairsOfText form = AllByRecursion (λ (pair : List ℕ × List ℕ). IsUtf8 pair.0 × IsUtf8 pair.1) form

-- what is sent by markup is UTF-8, names and values, where the values of the answers are
abbrev pub MarkupSendsText : Type 0
MarkupSendsText = (d : Forest) (answers : Form) → IsMarkup d → IsTextForm answers → ArePairsOfText (filled (controls d) answers)

-- the form in markup is markup
abbrev pub FormsAreMarkup : Type 0
FormsAreMarkup = (d : Forest) (form : Element) → IsMarkup d → form_in d ≡ Some form → IsMarkup form.items
