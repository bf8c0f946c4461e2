-- Laws of steps with formats of fields.
use Rattle.std.specs.Prelude.{◌≡◌, ◌≤◌, ◌⊎◌, ◌↔◌, ℕ, Bool, false, IsTrue, List, [], chars}
use Rattle.bw_format.specs.declared.format.Format.{Format}
use Rattle.bw_format.specs.Formats.{Accepts}
use Rattle.bw_http.specs.declared.replies.Reply.{Reply}
use Rattle.bw_http.specs.declared.request.Request.{Request}
use Rattle.bw_lang.specs.declared.service.Service.{Service}
use Rattle.bw_lang.specs.declared.turn.TheConstants.{BUDGET}
use Rattle.bw_model.specs.FormatAnswers.{guarded_step}
use Rattle.bw_model.specs.Guards.{IsGuarded}
use Rattle.bw_model.specs.Laws.{is_page, IsWorld}
use Rattle.bw_model.specs.Runs.{At, Turns}
use Rattle.bw_model.specs.Sessions.{World, empty}
use Rattle.bw_model.specs.Steps.{Step, step}
use Rattle.bw_model.specs.Within.{AreWithin}

-- ---- what a request comes to with formats

-- it comes to something
abbrev pub SomeStep : Type 0
SomeStep = (formats : List Format) (service : Service) (w : World) (request : Request) (key : ℕ) → (s : Step) × IsGuarded formats service w request key s

-- and to one thing
abbrev pub OneStep : Type 0
OneStep =
    (formats : List Format) (service : Service) (w : World) (request : Request) (key : ℕ) (s t : Step) → IsGuarded formats service w request key s →
    IsGuarded formats service w request key t → s ≡ t

-- without formats to the step
abbrev pub WithoutFormats : Type 0
WithoutFormats = (service : Service) (w : World) (request : Request) (key : ℕ) → IsGuarded [] service w request key (step service w request key)

-- with formats to the step, or to a reply that is no page, at no cost and with the world as it was
pub record IsStepOrNothing (service : Service) (w : World) (request : Request) (key : ℕ) (s : Step) : Type 0 where
  pub cases : (s ≡ step service w request key) ⊎ ((is_page s.reply ≡ false) × (s.world ≡ w) × (s.cost ≡ 0))

abbrev pub StepsOrNothing : Type 0
StepsOrNothing =
    (formats : List Format) (service : Service) (w : World) (request : Request) (key : ℕ) (s : Step) → IsGuarded formats service w request key s →
    IsStepOrNothing service w request key s

-- ---- so the laws of steps hold

-- each reply but a page leaves the world as it was
abbrev pub OthersChangeNothing : Type 0
OthersChangeNothing =
    (formats : List Format) (service : Service) (w : World) (request : Request) (key : ℕ) (s : Step) → IsGuarded formats service w request key s →
    is_page s.reply ≡ false → s.world ≡ w

-- a request takes 100,000 units at most
abbrev pub StepsAreShort : Type 0
StepsAreShort =
    (formats : List Format) (service : Service) (w : World) (request : Request) (key : ℕ) (s : Step) → IsGuarded formats service w request key s →
    s.cost ≤ BUDGET

-- numbers of sessions stay apart
abbrev pub StepsKeepWorlds : Type 0
StepsKeepWorlds =
    (formats : List Format) (service : Service) (w : World) (request : Request) (key : ℕ) (s : Step) → IsWorld w →
    IsGuarded formats service w request key s → IsWorld s.world

-- ---- what sessions stored is within the formats

-- in the empty world
abbrev pub EmptyIsWithin : Type 0
EmptyIsWithin = (formats : List Format) (service : Service) → AreWithin formats service (empty service)

-- behind each step
abbrev pub StepsKeepWithin : Type 0
StepsKeepWithin =
    (formats : List Format) (service : Service) (w : World) (request : Request) (key : ℕ) (s : Step) → AreWithin formats service w →
    IsGuarded formats service w request key s → AreWithin formats service s.world

-- and so behind the messages of a stream
abbrev pub StreamsKeepWithin : Type 0
StreamsKeepWithin =
    (formats : List Format) (service : Service) (at to : At) (replies : List Reply) (cost : ℕ) → Turns formats service at replies cost to →
    AreWithin formats service at.world → AreWithin formats service to.world

-- ---- by what sessions are answered

-- this test says which values are in the formats
abbrev pub Decides : List Format → (List ℕ → List ℕ → Bool) → Type 0
Decides formats inside = (field value : List ℕ) → IsTrue (inside field value) ↔ Accepts formats field (chars value)

-- the step of sessions that are answered by such a test is the step with these formats
abbrev pub FormatsAreAnswered : Type 0
FormatsAreAnswered =
    (formats : List Format) (inside : List ℕ → List ℕ → Bool) (service : Service) (w : World) (request : Request) (key : ℕ) → Decides formats inside →
    IsGuarded formats service w request key (guarded_step inside service w request key)

-- and there is such a test
abbrev pub SomeDecides : Type 0
SomeDecides = (formats : List Format) → (inside : List ℕ → List ℕ → Bool) × Decides formats inside
