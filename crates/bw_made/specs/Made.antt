-- Documents that are made of templates and of strings in UTF-8, and values that hold such documents and strings.
use Rattle.std.specs.Prelude.{◌≤◌, ℕ, List, length, IsUtf8}
use Rattle.std.specs.List.{AllByRecursion, Contains}
use Rattle.bw_lang.specs.Service.Submissions.{IsTextForm}
use Rattle.bw_lang.specs.declared.measure.Measure.{Measure}
use Rattle.bw_lang.specs.declared.service.Service.{Service}
use Rattle.bw_lang.specs.declared.service.Template.{Template}
use Rattle.bw_lang.specs.Document.Documents as doc
use Rattle.bw_lang.specs.Document.Forest.{Forest, none}
use Rattle.bw_lang.specs.Document.Measures.{constant_measure, text_measure, plugged, IsWithin}
use Rattle.bw_lang.specs.Document.Print.{print}
use Rattle.bw_meaning.specs.Expressions.{Evaluated, Gives, Faults}
use Rattle.bw_meaning.specs.States.{Input, State, Rests, Outcome, Went, Shown, Exited, Failed}
use Rattle.bw_meaning.specs.Values.{Document, Value, Values, number, truth_value, text, document, list}
use Rattle.bw_lang.specs.declared.turn.TheConstants.{MAX_DOCUMENT_BYTES}

-- The document has this measure and is made by plugs of constants, each of which is one of these, and of strings in UTF-8.
pub data IsMadeOf (Constant : Forest → Type 0) : Forest → Measure → Type 0 where
  constant : (t : Forest) → Constant t → IsMadeOf Constant t (constant_measure t)
  plug : (b a : Forest) (m n : Measure) (g : ℕ) → IsMadeOf Constant b m → IsMadeOf Constant a n
      → IsMadeOf Constant (doc.plug g a b) (plugged m n (doc.count g b) (doc.around g b))
  fill : (b : Forest) (m : Measure) (g : ℕ) (s : List ℕ) → IsUtf8 s → IsMadeOf Constant b m
      → IsMadeOf Constant (doc.plug_text g s b) (plugged m (text_measure (length s)) (doc.count g b) (doc.around g b))

-- The items of a template of the service. Or no items, for which a value counts that is no document: in a service that
-- is well typed none does.
pub data IsItemsOf (service : Service) : Forest → Type 0 where
  template : (t : Template) → Contains service.templates t → IsItemsOf service t.items
  nothing : IsItemsOf service none

-- the document is made so, and it is within the limits
pub record IsDocumentOf (Constant : Forest → Type 0) (d : Document) : Type 0 where
  pub made : IsMadeOf Constant d.tree d.measure
  pub within : IsWithin d.measure

-- a string is UTF-8, so is each of a list, and a document is made so
abbrev pub IsText : (Forest → Type 0) → Value → Type 0
IsText Constant (number n) = Unit {0}
IsText Constant (truth_value b) = Unit {0}
IsText Constant (text s) = IsUtf8 s
IsText Constant (document d) = IsDocumentOf Constant d
IsText Constant (list strings) = AllByRecursion IsUtf8 strings

abbrev pub AreTexts : (Forest → Type 0) → Values → Type 0
AreTexts Constant values = AllByRecursion (λ (x : List ℕ × Value). IsText Constant x.1) values

-- where a value is given, it is so
abbrev pub GivesText : (Forest → Type 0) → Evaluated → Type 0
GivesText Constant (Gives v units) = IsText Constant v
GivesText Constant (Faults f units) = Unit {0}

-- the values of each input's form are UTF-8, and the shared variables at its request are so
abbrev pub AreTextInputs : (Forest → Type 0) → List Input → Type 0
AreTextInputs Constant inputs = AllByRecursion (λ (i : Input). IsTextForm i.form × AreTexts Constant i.shared) inputs

-- the strings that are still to come of the foreachs around a place are UTF-8
abbrev pub AreTextRests : Rests → Type 0
AreTextRests rests = AllByRecursion (λ (strings : List (List ℕ)). AllByRecursion IsUtf8 strings) rests

-- the values at hand, and those to come
pub record IsTextState (Constant : Forest → Type 0) (st : State) : Type 0 where
  pub locals : AreTexts Constant st.locals
  pub shared : AreTexts Constant st.shared
  pub inputs : AreTextInputs Constant st.inputs

-- the document of a page, which is within the limit of what it prints to
pub record IsPageOf (Constant : Forest → Type 0) (d : Document) : Type 0 where
  pub document : IsDocumentOf Constant d
  pub short : length (print d.tree) ≤ MAX_DOCUMENT_BYTES

-- what a session has where it waits at a show
pub record IsTextShow (Constant : Forest → Type 0) (locals : Values) (rests : Rests) (shown : Document) (shared : Values) : Type 0 where
  pub locals_are : AreTexts Constant locals
  pub rests_are : AreTextRests rests
  pub shown_is : IsPageOf Constant shown
  pub shared_are : AreTexts Constant shared

-- what it leaves at its end
pub record IsTextEnd (Constant : Forest → Type 0) (last : Document) (shared : Values) : Type 0 where
  pub last_is : IsPageOf Constant last
  pub shared_are : AreTexts Constant shared

-- the values of whatever statements come to are so
abbrev pub IsTextOutcome : (Forest → Type 0) → Outcome → Type 0
IsTextOutcome Constant (Went st) = IsTextState Constant st
IsTextOutcome Constant (Shown at locals rests shown shared units) = IsTextShow Constant locals rests shown shared
IsTextOutcome Constant (Exited last shared units) = IsTextEnd Constant last shared
IsTextOutcome Constant (Failed f units) = Unit {0}
