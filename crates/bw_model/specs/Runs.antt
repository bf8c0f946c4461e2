-- A stream of messages is one run of the world, with formats of fields.
use Rattle.std.specs.Prelude.{◌≡◌, ◌⊎◌, ◌≤◌, ◌<◌, ◌+◌, ℕ, List, [], ◌∷◌, ◌++◌, length, Option, None, Some, Ok, Err}
use Rattle.bw_http.specs.declared.replies.Reply.{Reply}
use Rattle.bw_http.specs.declared.replies.Reply.TheVariants as replies
use Rattle.bw_http.specs.declared.request.ReadOutcome.{ReadOutcome}
use Rattle.bw_http.specs.declared.request.ReadOutcome.TheVariants as outcomes
use Rattle.bw_http.specs.declared.request.Request.{Request}
use Rattle.bw_http.specs.Cuts.{Cut}
use Rattle.bw_http.specs.Replies.{bytes_of}
use Rattle.bw_lang.specs.declared.service.Service.{Service}
use Rattle.bw_lang.specs.Table.Names.{with_names}
use Rattle.bw_out.specs.Told.{Coming, later_words}
use Rattle.bw_types.specs.Fields.{field_names}
use Rattle.bw_format.specs.declared.format.Format.{Format}
use Rattle.bw_model.specs.Guards.{IsGuarded}
use Rattle.bw_model.specs.Sessions.{World}
use Rattle.bw_lang.specs.declared.turn.TheConstants.{BUDGET}

-- where a stream stands: the world, the bytes to come, and the keys to come
pub record At : Type 0 where
  pub world : World
  pub bytes : List ℕ
  pub keys : Coming

-- One message is handled, by this reply at this cost: a request as it is guarded by these formats, with the next key; or there was
-- no memory for a whole message, and the world stays.
pub data Turn (formats : List Format) (service : Service) (at : At) (reply : Reply) (cost : ℕ) (to : At) : Type 0 where
  request : (r : Request) → Cut at.bytes (Ok r) to.bytes → IsGuarded formats service at.world r (at.keys 0) (record { reply = reply; world = to.world; cost = cost })
      → to.keys ≡ later_words at.keys → Turn formats service at reply cost to
  no_memory : Cut at.bytes (Err outcomes.Memory) to.bytes → reply ≡ replies.Memory → to.world ≡ at.world → (to.keys ≡ at.keys) ⊎ (to.keys ≡ later_words at.keys)
      → cost ≤ BUDGET → Turn formats service at reply cost to

-- messages are handled one after another, by these replies
abbrev pub Turns : List Format → Service → At → List Reply → ℕ → At → Type 0
Turns formats service at [] cost to = (cost ≡ 0) × (to ≡ at)
Turns formats service at (reply ∷ replies) cost to =
    (first : ℕ) × (later : ℕ) × (mid : At) × Turn formats service at reply first mid × Turns formats service mid replies later to × (cost ≡ first + later)

-- the reply to bytes that are refused
abbrev pub refusal : ReadOutcome → Option Reply
refusal outcomes.BadHead = Some replies.Bad
refusal outcomes.Truncated = Some replies.Bad
refusal outcomes.HeadTooLong = Some replies.HeadTooLong
refusal outcomes.NoHost = Some replies.Bad
refusal outcomes.Coding = Some replies.LengthRequired
refusal outcomes.BadLength = Some replies.Bad
refusal outcomes.LengthRequired = Some replies.LengthRequired
refusal outcomes.BodyTooLong = Some replies.BodyTooLong
refusal outcomes.Media = Some replies.Media
refusal outcomes.End = None
refusal outcomes.ReadFault = None
refusal outcomes.Memory = None

-- no message follows: the stream has ended, or its bytes are refused
pub data Stops (at : At) : List Reply → At → Type 0 where
  ended : (rest : List ℕ) → Cut at.bytes (Err outcomes.End) rest → Stops at [] (record at { bytes = rest })
  refused : (outcome : ReadOutcome) (reply : Reply) (rest : List ℕ) → Cut at.bytes (Err outcome) rest → refusal outcome ≡ Some reply →
      Stops at (reply ∷ []) (record at { bytes = rest })

-- A run over a stream, of at most so many messages: they are handled one after another, until there are that many or none
-- follows.
pub record Run (formats : List Format) (service : Service) (most : ℕ) (at : At) (replies : List Reply) (cost : ℕ) (to : At) : Type 0 where
  pub first : List Reply
  pub last : List Reply
  pub mid : At
  pub turns : Turns formats service at first cost mid
  pub all : replies ≡ first ++ last
  pub ends : ((length first ≡ most) × (last ≡ []) × (to ≡ mid)) ⊎ ((length first < most) × Stops mid last to)

-- the bytes of all replies
abbrev pub answer_of : Service → List Reply → List ℕ
answer_of service [] = []
answer_of service (reply ∷ replies) = bytes_of (with_names [] (field_names service)) reply ++ answer_of service replies

-- how many replies say that there was no memory
abbrev pub want : Reply → ℕ
want replies.Memory = 1
want reply = 0

abbrev pub wants : List Reply → ℕ
wants [] = 0
wants (reply ∷ replies) = want reply + wants replies
