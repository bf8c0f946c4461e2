-- Live sessions, by what they were sent, and the world that has them. There are no frames in it and no pages, but for
-- what a session keeps that was loaded.
use Rattle.std.specs.Prelude.{ℕ, ◌+◌, List, [], ◌∷◌, length}
use Rattle.bw_lang.specs.declared.service.Service.{Service}
use Rattle.bw_meaning.specs.GoOn.{turn, go_on}
use Rattle.bw_meaning.specs.States.{Input, Outcome, Shown, Rests, budget}
use Rattle.bw_meaning.specs.Values.{Document, Values, first_values}

-- How a session began: it was started, with the shared variables at its start. Or it was loaded, waiting at a show with
-- locals, rests and a document, at a turn of this number.
pub data Origin : Type 0 where
  Started : (shared : Values) → Origin
  Loaded : (at : ℕ) (locals : Values) (rests : Rests) (shown : Document) (turn : ℕ) → Origin

-- what a client and a service have come to: which session of the service it is, how it began, and its inputs since
pub record Talk : Type 0 where
  pub session : ℕ
  pub origin : Origin
  pub inputs : List Input

-- a live session: its number, its key, and what was said
pub record Live : Type 0 where
  pub number : ℕ
  pub key : ℕ
  pub talk : Talk

-- the shared variables, the next session's number, the number of a first turn, and at most 1,000 live sessions, the most
-- recently used first
pub record World : Type 0 where
  pub shared : Values
  pub next : ℕ
  pub first : ℕ
  pub live : List Live

-- the world in which nothing was requested yet
abbrev pub empty : Service → World
empty service = record { shared = first_values service; next = 1; first = 1; live = [] }

-- what a session comes to over these inputs
abbrev pub result : Service → ℕ → Origin → List Input → Outcome
result service session (Started shared) inputs = turn service session shared inputs
result service session (Loaded at locals rests shown number) [] = Shown at locals rests shown [] budget
result service session (Loaded at locals rests shown number) (i ∷ later) =
    go_on service session (record { at = at; locals = locals; rests = rests; input = i; later = later })

-- what it has come to
abbrev pub now : Service → Talk → Outcome
now service talk = result service talk.session talk.origin talk.inputs

-- the number of the turn that an origin begins with, where that of a first turn is given
abbrev pub begins_at : ℕ → Origin → ℕ
begins_at first (Started shared) = first
begins_at first (Loaded at locals rests shown number) = number

-- the number of the current turn
abbrev pub current : ℕ → Talk → ℕ
current first talk = begins_at first talk.origin + length talk.inputs
