-- What a scripted user does after a reply, as the code answers it.
use Rattle.std.specs.Prelude.{◌≡◌, ◌≢◌, ◌<◌, ℕ, List, length, Result, Err, ⊤}
use Rattle.bw_agent.specs.Fills.{OfBytes}
use Rattle.bw_agent.specs.declared.page.AgentFault.{AgentFault}
use Rattle.bw_agent.specs.declared.page.AgentFault.TheVariants as faults
use Rattle.bw_agent.specs.declared.page.Filled.{Filled}
use Rattle.bw_http.specs.Forms.{form_of}
use Rattle.bw_user.specs.Messages.{post}
use Rattle.bw_visit.specs.Scripts.{AreLines}
use Rattle.bw_visit.specs.Visits.{Next, Over, Sends, Asks, next_of, Does}
use Rattle.bw_visit.specs.declared.turns.After.{After}
use Rattle.bw_visit.specs.declared.turns.After.TheVariants as after

-- this is done next by this line, where these are left
pub record ByLine (body line later : List ℕ) (next : Next) : Type 0 where
  pub result : Result Filled AgentFault
  pub fills : OfBytes body (form_of line) result
  pub enough : result ≢ Err faults.Memory
  pub is : next ≡ next_of result later

-- where there was memory, this is done next; what is sent is the message
abbrev pub OfAfter : (Next → Type 0) → (message : List ℕ) → After → Type 0
OfAfter P message after.Over = P Over
OfAfter P message (after.Sends lines) = P (Sends message lines.now)
OfAfter P message (after.Unknown name) = P (Asks name)
OfAfter P message after.Memory = ⊤

abbrev pub IsNext : (body lines message : List ℕ) → After → Type 0
IsNext body lines message a = OfAfter (Does body lines) message a

abbrev pub IsAnswered : (body line later message : List ℕ) → After → Type 0
IsAnswered body line later message a = OfAfter (ByLine body line later) message a

-- it sends what was filled in, or there was no memory
abbrev pub IsSent : Filled → (later message : List ℕ) → After → Type 0
IsSent filled later message a = OfAfter (λ next. next ≡ Sends (post filled.target filled.body) later) message a

-- what is left are lines, which are shorter, and the message isn't empty
abbrev pub Shrinks : (lines message : List ℕ) → After → Type 0
Shrinks lines message after.Over = ⊤
Shrinks lines message (after.Sends rest) = (length rest.now < length lines) × AreLines rest.now × (0 < length message)
Shrinks lines message (after.Unknown name) = ⊤
Shrinks lines message after.Memory = ⊤

-- the lines that are left are these, and the message isn't empty
abbrev pub Keeps : (later message : List ℕ) → After → Type 0
Keeps later message after.Over = ⊤
Keeps later message (after.Sends rest) = (rest.now ≡ later) × (0 < length message)
Keeps later message (after.Unknown name) = ⊤
Keeps later message after.Memory = ⊤
