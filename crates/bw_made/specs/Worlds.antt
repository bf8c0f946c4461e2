-- Worlds hold documents of the service, made of its templates and of strings in UTF-8.
use Rattle.std.specs.Prelude.{ℕ}
use Rattle.std.specs.List.{AllByRecursion}
use Rattle.bw_http.specs.declared.request.Request.{Request}
use Rattle.bw_lang.specs.Service.Submissions.{IsTextForm}
use Rattle.bw_lang.specs.declared.service.Service.{Service}
use Rattle.bw_lang.specs.Document.Forest.{Forest}
use Rattle.bw_lang.specs.Service.Reads.{IsReadable}
use Rattle.bw_meaning.specs.States.{Form}
use Rattle.bw_model.specs.Answers.{with_input}
use Rattle.bw_model.specs.Reached.{Reached}
use Rattle.bw_model.specs.Sessions.{Origin, Started, Loaded, Talk, Live, World, empty, result}
use Rattle.bw_model.specs.Steps.{beginner, step}
use Rattle.bw_made.specs.Made.{AreTexts, AreTextInputs, AreTextRests, IsPageOf, IsItemsOf, IsTextOutcome}

-- what a session begins with is made so: the shared variables, or what it had where it was loaded
abbrev pub IsTextOrigin : (Forest → Type 0) → Origin → Type 0
IsTextOrigin Constant (Started shared) = AreTexts Constant shared
IsTextOrigin Constant (Loaded at locals rests shown turn) = AreTexts Constant locals × AreTextRests rests × IsPageOf Constant shown

-- and so is what it was sent since
pub record IsTextTalk (Constant : Forest → Type 0) (talk : Talk) : Type 0 where
  pub origin : IsTextOrigin Constant talk.origin
  pub inputs : AreTextInputs Constant talk.inputs

-- the shared variables of a world, and each live session
pub record IsTextWorld (Constant : Forest → Type 0) (w : World) : Type 0 where
  pub shared : AreTexts Constant w.shared
  pub live : AllByRecursion (λ (l : Live). IsTextTalk Constant l.talk) w.live

-- what a session comes to that is made so
abbrev pub ResultsAreMade : Type 0
ResultsAreMade =
    (service : Service) (talk : Talk) → ∥ IsReadable service ∥₁ → IsTextTalk (IsItemsOf service) talk →
    IsTextOutcome (IsItemsOf service) (result service talk.session talk.origin talk.inputs)

-- the empty world is made so, with any next number and number of a first turn
abbrev pub EmptyIsMade : Type 0
EmptyIsMade =
    (service : Service) (next first : ℕ) → ∥ IsReadable service ∥₁ →
    IsTextWorld (IsItemsOf service) (record (empty service) { next = next; first = first })

-- each step keeps it
abbrev pub StepsKeepMade : Type 0
StepsKeepMade =
    (service : Service) (w : World) (request : Request) (key : ℕ) → ∥ IsReadable service ∥₁ → IsTextForm request.form →
    IsTextWorld (IsItemsOf service) w → IsTextWorld (IsItemsOf service) (step service w request key).world

-- so it is with each world that requests reach from one such
abbrev pub WorldsAreMade : Type 0
WorldsAreMade =
    (service : Service) (from to : World) → ∥ IsReadable service ∥₁ → IsTextWorld (IsItemsOf service) from → Reached service from to →
    IsTextWorld (IsItemsOf service) to

-- and a session that begins in such a world, or goes on there with a form in UTF-8, is made so
abbrev pub NextAreMade : Type 0
NextAreMade =
    (service : Service) (w : World) → IsTextWorld (IsItemsOf service) w → ((session : ℕ) → IsTextTalk (IsItemsOf service) (beginner w session))
    × ((talk : Talk) (form : Form) → IsTextTalk (IsItemsOf service) talk → IsTextForm form
    → IsTextTalk (IsItemsOf service) (with_input talk form w.shared))
