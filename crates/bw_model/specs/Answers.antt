-- What a session is answered: by what it has come to, what it is sent, and the shared variables then. Neither numbers and
-- keys of sessions nor other sessions stand here.
use Rattle.std.specs.Prelude.{ℕ, suc, ◌==◌, if◌then◌else◌, [], ◌∷◌, ◌++◌, Option, Some, None}
use Rattle.bw_http.specs.declared.replies.Reply.{Reply}
use Rattle.bw_http.specs.declared.replies.Reply.TheVariants as replies
use Rattle.bw_http.specs.declared.request.Method.{Method}
use Rattle.bw_http.specs.declared.request.Method.TheVariants.{Get, Post}
use Rattle.bw_lang.specs.declared.service.Service.{Service}
use Rattle.bw_meaning.specs.States.{Form, Outcome, Went, Shown, Exited, Failed, cost}
use Rattle.bw_meaning.specs.Values.{Document, Values}
use Rattle.bw_model.specs.Received.{receives_of, first_refusal}
use Rattle.bw_model.specs.Sessions.{Talk, now, current}
use Rattle.bw_model.specs.declared.limits.TheConstants.{MAX_NUMBER}

-- a document with the number of its turn, a last document, or a reply without a page
pub data Answer : Type 0 where
  Shows : Document → (turn : ℕ) → Answer
  Ends : Document → Answer
  Says : Reply → Answer

-- What becomes of the session: it stays as it is; it is looked at, which makes it the most recently used one; it goes on
-- with one more input, or exits, and stores the shared variables.
pub data Fate : Type 0 where
  Stays : Fate
  IsUsed : Fate
  GoesOn : Talk → (shared : Values) → Fate
  Leaves : (shared : Values) → Fate

-- the answer, what becomes of the session, and the units that it took
pub record Answered : Type 0 where
  pub answer : Answer
  pub fate : Fate
  pub cost : ℕ

-- what a request to a session says: its method, its form, the turn that it names, and the shared variables then
pub record Said : Type 0 where
  pub method : Method
  pub form : Form
  pub turn : ℕ
  pub shared : Values

-- a reply without a page, after which the session is as it was
abbrev pub refuses : Reply → Answered
refuses reply = record { answer = Says reply; fate = Stays; cost = 0 }

-- a turn of this number was made, after which the session is this one if it goes on. No body of a well typed service
-- goes to its end without an exit.
abbrev pub turned : ℕ → Talk → Outcome → Answered
turned number talk (Shown at locals rests d shared units) =
    record { answer = Shows d number; fate = GoesOn talk shared; cost = cost (Shown at locals rests d shared units) }
turned number talk (Exited d shared units) = record { answer = Ends d; fate = Leaves shared; cost = cost (Exited d shared units) }
turned number talk (Failed f units) = record { answer = Says (replies.Failed f); fate = Stays; cost = cost (Failed f units) }
turned number talk (Went st) = refuses replies.NoSuch

-- the session with one more input
abbrev pub with_input : Talk → Form → Values → Talk
with_input talk form shared = record talk { inputs = talk.inputs ++ record { form = form; shared = shared } ∷ [] }

-- its next turn, unless the form is refused, or it has had all its turns
abbrev pub takes : Service → ℕ → Talk → Form → Values → Option Reply → Answered
takes service first talk form shared (Some reply) = refuses reply
takes service first talk form shared None =
    if current first talk == MAX_NUMBER then refuses replies.NoTurns
    else let next = with_input talk form shared in turned (suc (current first talk)) next (now service next)

-- the session waits here: its page is sent again, or it takes a form
abbrev pub waits : Service → ℕ → Talk → Method → Form → Values → Outcome → Answered
waits service first talk Get form shared (Shown at locals rests d after units) =
    record { answer = Shows d (current first talk); fate = IsUsed; cost = 0 }
waits service first talk Post form shared (Shown at locals rests d after units) =
    takes service first talk form shared (first_refusal service (receives_of service talk.session at) locals form)
waits service first talk method form shared o = refuses replies.NoSuch

-- what a session is answered, by its current turn and what it waits at
abbrev pub answered : Service → ℕ → Talk → Said → Answered
answered service first talk said =
    if said.turn == current first talk then waits service first talk said.method said.form said.shared (now service talk)
    else refuses (replies.Stale (current first talk))
