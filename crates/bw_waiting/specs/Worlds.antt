-- Worlds in which each session waits with values of the kinds of its variables, under numbers that a path can name.
use Rattle.std.specs.Prelude.{◌≡◌, ◌<◌, ◌^◌, ℕ, List}
use Rattle.std.specs.List.{AllByRecursion, Contains}
use Rattle.bw_cover.specs.Received.{scope_of}
use Rattle.bw_http.specs.Paths.{IsCount, IsForm}
use Rattle.bw_http.specs.declared.request.Path.TheVariants.{Turn}
use Rattle.bw_http.specs.declared.request.Request.{Request}
use Rattle.bw_lang.specs.declared.service.Service.{Service}
use Rattle.bw_meaning.specs.States.{Input, Shown, Rests}
use Rattle.bw_meaning.specs.Values.{Document, Values}
use Rattle.bw_model.specs.Sessions.{Origin, Started, Loaded, Talk, Live, World, empty, now, current}
use Rattle.bw_model.specs.Steps.{step}
use Rattle.bw_run.specs.Follow.Kinds.{AreShared, kinds_of, kinds_in}
use Rattle.bw_types.specs.declared.typed.Typed.{Typed}

-- ---- kinds

-- a session was started, with a value of its kind for each shared variable
abbrev pub IsKindedOrigin : Service → Origin → Type 0
IsKindedOrigin service (Started shared) = AreShared service shared
IsKindedOrigin service (Loaded at locals rests shown turn) = ⊥

-- and so are the shared variables at each of its inputs
pub record IsKindedTalk (service : Service) (talk : Talk) : Type 0 where
  pub origin : IsKindedOrigin service talk.origin
  pub inputs : AllByRecursion (λ (i : Input). AreShared service i.shared) talk.inputs

-- the shared variables of a world, and each live session
pub record IsKindedWorld (service : Service) (w : World) : Type 0 where
  pub shared : AreShared service w.shared
  pub live : AllByRecursion (λ (l : Live). IsKindedTalk service l.talk) w.live

-- ---- numbers

-- the numbers of sessions and turns to come count, and those of each live session are a path's, with its key
pub record IsNumberedWorld (w : World) : Type 0 where
  pub next : 0 < w.next
  pub first : IsCount w.first
  pub live : AllByRecursion (λ (l : Live). IsForm (Turn l.number l.key (current w.first l.talk))) w.live

-- ---- laws

-- in a well typed service the empty world is so, and each request keeps it so
abbrev pub KindsStay : Type 0
KindsStay =
    (t : Typed) → IsKindedWorld t.service (empty t.service)
    × ((w : World) (request : Request) (key : ℕ) → IsKindedWorld t.service w → IsKindedWorld t.service (step t.service w request key).world)

-- the empty world is so, and each request keeps it so, with a key of 64 bits
abbrev pub NumbersStay : Type 0
NumbersStay =
    (service : Service) → IsNumberedWorld (empty service)
    × ((w : World) (request : Request) (key : ℕ) → key < 2 ^ 64 → IsNumberedWorld w → IsNumberedWorld (step service w request key).world)

-- where a session of such a world waits, its locals have the kinds of those in scope at its show
abbrev pub WaitingFits : Type 0
WaitingFits =
    (t : Typed) (talk : Talk) (at : ℕ) (locals : Values) (rests : Rests) (shown : Document) (shared : Values) (units : ℕ) → IsKindedTalk t.service talk
    → now t.service talk ≡ Shown at locals rests shown shared units → kinds_of locals ≡ kinds_in (scope_of t.service talk.session at)
