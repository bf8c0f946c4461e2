-- A scripted user visits a service: each message is made from the reply to the one before and the next line of the script.
use Rattle.std.specs.Prelude.{◌≡◌, ◌≢◌, ◌<◌, ◌+◌, ◌^◌, ℕ, Bool, true, false, List, [], ◌∷◌, length, Result, Ok, Err}
use Rattle.bw_agent.specs.Fills.{OfBytes}
use Rattle.bw_agent.specs.declared.page.AgentFault.{AgentFault}
use Rattle.bw_agent.specs.declared.page.AgentFault.TheVariants as faults
use Rattle.bw_agent.specs.declared.page.Filled.{Filled}
use Rattle.bw_format.specs.declared.format.Format.{Format}
use Rattle.bw_http.specs.Forms.{form_of}
use Rattle.bw_http.specs.Paths.{IsCutAt}
use Rattle.bw_http.specs.declared.replies.Reply.{Reply}
use Rattle.bw_http.specs.declared.replies.Reply.TheVariants as replies
use Rattle.bw_lang.specs.declared.service.Service.{Service}
use Rattle.bw_model.specs.Runs.{Run}
use Rattle.bw_user.specs.Messages.{post, body_in}
use Rattle.bw_world.specs.Streams.Courses.{bytes_by, Between, begins}

-- a message is answered by this reply, in a run of one message. Both fit in memory
pub record Exchange (formats : List Format) (service : Service) (from : Between) (message : List ℕ) (reply : Reply) (to : Between) : Type 0 where
  pub cost : ℕ
  pub rest : List ℕ
  pub run : Run formats service 1 (begins from message) (reply ∷ []) cost (begins to rest)
  pub steps : to.steps ≡ from.steps + cost
  pub sent_fits : length message < 2 ^ 64
  pub reply_fits : length (bytes_by service reply) < 2 ^ 64

-- What the user does next: nothing more; or it sends a message, and these lines are left of the script; or it says that a
-- line has an answer to which there is no control.
pub data Next : Type 0 where
  Over : Next
  Sends : (message lines : List ℕ) → Next
  Asks : (name : List ℕ) → Next

-- by what comes of filling in a form with one line, where these are left
abbrev pub next_of : Result Filled AgentFault → List ℕ → Next
next_of (Ok sent) lines = Sends (post sent.target sent.body) lines
next_of (Err faults.NotAPage) lines = Over
next_of (Err faults.NoForm) lines = Over
next_of (Err (faults.UnknownAnswer name)) lines = Asks name
next_of (Err faults.Memory) lines = Over

-- What the user does after a reply with this body, with these lines left: nothing where there is none, and else it fills in
-- the form by the answers of the first line, for which there was memory.
pub data Does (body lines : List ℕ) : Next → Type 0 where
  no_line : lines ≡ [] → Does body lines Over
  by_line : (line later : List ℕ) → IsCutAt 10 lines line later → (result : Result Filled AgentFault) → OfBytes body (form_of line) result
      → result ≢ Err faults.Memory → Does body lines (next_of result later)

-- How a visit ends: all was done; an answer had no control; there was no memory to go on; or the last reply could not be
-- printed.
pub data End : Type 0 where
  Done : End
  Unknown : (name : List ℕ) → End
  Wanted : End
  Broken : End

-- nothing more is sent
pub data Stops : Next → End → Type 0 where
  is_over : Stops Over Done
  is_unknown : (name : List ℕ) → Stops (Asks name) (Unknown name)

-- A visit with these formats of fields: the message is answered; and then nothing more is sent, or a further message is made
-- from the reply, and so on. These are the replies. Memory may be wanted in front of an answer or behind one.
pub data Visits (formats : List Format) (service : Service) : Between → (message lines : List ℕ) → List Reply → Between → End → Type 0 where
  last : (from to : Between) (message lines : List ℕ) (reply : Reply) (next : Next) (end : End) → Exchange formats service from message reply to
      → Does (body_in (bytes_by service reply)) lines next → Stops next end → Visits formats service from message lines (reply ∷ []) to end
  more : (from mid to : Between) (message lines later rest : List ℕ) (reply : Reply) (replies : List Reply) (end : End)
      → Exchange formats service from message reply mid → Does (body_in (bytes_by service reply)) lines (Sends later rest)
      → Visits formats service mid later rest replies to end → Visits formats service from message lines (reply ∷ replies) to end
  quiet : (from : Between) (message lines : List ℕ) → Visits formats service from message lines [] from Wanted
  no_room : (from to : Between) (message lines : List ℕ) (reply : Reply) → Exchange formats service from message reply to
      → Visits formats service from message lines (reply ∷ []) to Wanted
  broken : (from to : Between) (message lines : List ℕ) (reply : Reply) → Exchange formats service from message reply to
      → Visits formats service from message lines (reply ∷ []) to Broken

-- ---- what a scripted user is never told

-- a field is lacking, or there twice where it is due once; nor is it sent the list of sessions
abbrev pub is_amiss : Reply → Bool
is_amiss (replies.Index names) = true
is_amiss (replies.Lacking field) = true
is_amiss (replies.Repeated field) = true
is_amiss reply = false
