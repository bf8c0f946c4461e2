-- What the worlds of a service hold is covered, and what requests reach from them.
use Rattle.std.specs.Prelude.{ℕ, List, [], ◌∷◌}
use Rattle.std.specs.List.{AllByRecursion}
use Rattle.bw_http.specs.declared.request.Request.{Request}
use Rattle.bw_lang.specs.declared.service.Service.{Service}
use Rattle.bw_meaning.specs.States.{Form, Input, Outcome, Went, Shown, Exited, Failed}
use Rattle.bw_model.specs.Answers.{with_input}
use Rattle.bw_model.specs.Reached.{Reached}
use Rattle.bw_model.specs.Sessions.{Origin, Started, Loaded, Talk, Live, World, empty, now}
use Rattle.bw_model.specs.Steps.{beginner, step}
use Rattle.bw_cover.specs.Covered.{CoversLocals, CoversShared, CoversInputs, IsCovered, AreOpen}
use Rattle.bw_cover.specs.Abstracts.{CoversTree}
use Rattle.bw_cover.specs.Facts.{Facts}
use Rattle.bw_cover.specs.Plugs.{Plug, turn_plugs, go_on_plugs}
use Rattle.bw_cover.specs.Sound.{AcceptsAll}
use Rattle.bw_cover.specs.Spots.{Spot}

-- ---- sessions

-- what a session begins with is covered: the shared variables, or the locals and the document of the show at which it was loaded
abbrev pub CoversOrigin : {K : Type 0} → Service → Facts K → Origin → Type 0
CoversOrigin service f (Started shared) = CoversShared service f shared
CoversOrigin service f (Loaded at locals rests shown turn) =
    CoversLocals service f (f.place at) locals × CoversTree service (f.shown (f.place at)) shown.tree

-- a session waits at a show, where its locals and its document are covered
abbrev pub WaitsAtShow : {K : Type 0} → Service → Facts K → Outcome → Type 0
WaitsAtShow service f (Shown at locals rests shown shared units) =
    CoversLocals service f (f.place at) locals × CoversTree service (f.shown (f.place at)) shown.tree
WaitsAtShow service f (Went st) = ⊥
WaitsAtShow service f (Exited last shared units) = ⊥
WaitsAtShow service f (Failed x units) = ⊥

-- the plugs that a session makes over these inputs, from where it begins on
abbrev pub plugs_over : Service → ℕ → Origin → List Input → List Plug
plugs_over service session (Started shared) inputs = turn_plugs service session shared inputs
plugs_over service session (Loaded at locals rests shown turn) [] = []
plugs_over service session (Loaded at locals rests shown turn) (i ∷ later) =
    go_on_plugs service session (record { at = at; locals = locals; rests = rests; input = i; later = later })

-- those that it has made so far
abbrev pub talk_plugs : Service → Talk → List Plug
talk_plugs service talk = plugs_over service talk.session talk.origin talk.inputs

-- a live session: what it begins with, its inputs, where it waits, and the plugs that it makes up to there
pub record CoversTalk {K : Type 0} (service : Service) (f : Facts K) (talk : Talk) : Type 0 where
  pub origin : CoversOrigin service f talk.origin
  pub inputs : CoversInputs service f talk.inputs
  pub waits : WaitsAtShow service f (now service talk)
  pub plugs : AreOpen (talk_plugs service talk)

-- ---- worlds

-- each shared variable, and each live session
pub record CoversWorld {K : Type 0} (service : Service) (f : Facts K) (w : World) : Type 0 where
  pub shared : CoversShared service f w.shared
  pub live : AllByRecursion (λ (l : Live). CoversTalk service f l.talk) w.live

-- what a session comes to is covered, and each plug that it makes has an open gap
pub record ComesToCovered {K : Type 0} (service : Service) (f : Facts K) (talk : Talk) : Type 0 where
  pub result : IsCovered service f (now service talk)
  pub plugs : AreOpen (talk_plugs service talk)

-- whatever is requested next: each session that begins, and each live session with one form more
pub record CoversNext {K : Type 0} (service : Service) (f : Facts K) (w : World) : Type 0 where
  pub begins : (session : ℕ) → ComesToCovered service f (beginner w session)
  pub goes_on : (form : Form) → AllByRecursion (λ (l : Live). ComesToCovered service f (with_input l.talk form w.shared)) w.live

-- the world in which nothing was requested yet is covered, with any next number and number of a first turn
abbrev pub CoversEmpty : {K : Type 0} → Service → Facts K → Type 0
CoversEmpty service f = (next first : ℕ) → CoversWorld service f (record (empty service) { next = next; first = first })

-- every world that requests reach from a covered one is covered, and so is what comes next
abbrev pub CoversReached : {K : Type 0} → Service → Facts K → Type 0
CoversReached service f =
    (from to : World) → CoversWorld service f from → Reached service from to → CoversWorld service f to × CoversNext service f to

-- ---- laws

-- the empty world is covered
abbrev pub EmptyIsCovered : Type 0
EmptyIsCovered = (service : Service) (f : Facts Spot) → AcceptsAll service f → CoversEmpty service f

-- a request keeps a covered world covered
abbrev pub StepsKeepCovering : Type 0
StepsKeepCovering =
    (service : Service) (f : Facts Spot) (w : World) (request : Request) (key : ℕ) → AcceptsAll service f → CoversWorld service f w →
    CoversWorld service f (step service w request key).world

-- what a covered world comes to next is covered, whether it shows, ends or fails
abbrev pub NextIsCovered : Type 0
NextIsCovered = (service : Service) (f : Facts Spot) (w : World) → AcceptsAll service f → CoversWorld service f w → CoversNext service f w

-- so every world that requests reach is covered, and so is what comes next
abbrev pub WorldsAreCovered : Type 0
WorldsAreCovered = (service : Service) (f : Facts Spot) → AcceptsAll service f → CoversReached service f
