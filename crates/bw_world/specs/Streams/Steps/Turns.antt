-- What one call in the midst of a stream did.
-- It only follows the steps of the code: nothing is promised by it.
use Rattle.std.specs.Prelude.{◌≡◌, ◌⊎◌, ◌≤◌, ◌+◌, ℕ, List, [], ◌∷◌, length, ⊤}
use Rattle.std.specs.Io.KnownBytes.{Appends}
use Rattle.bw_format.specs.declared.format.Format.{Format}
use Rattle.bw_http.specs.Messages.{IsShort}
use Rattle.bw_http.specs.declared.replies.Reply.{Reply}
use Rattle.bw_lang.specs.declared.service.Service.{Service}
use Rattle.bw_model.specs.Runs.{At, Turn, Turns, Stops, want, wants, answer_of}
use Rattle.bw_out.specs.Writes.{AppendsPart}
use Rattle.bw_world.specs.Streams.Answers.{Place, IsAt}
use Rattle.bw_world.specs.Streams.Courses.{bytes_by}
use Rattle.bw_world.specs.Streams.Taking.{Taking}
use Rattle.bw_world.specs.declared.outcomes.Taken.{Taken}
use Rattle.bw_world.specs.declared.outcomes.Next.{Next}
use Rattle.bw_world.specs.declared.outcomes.Next.TheVariants as nexts

abbrev pub Takes : List Format → Service → Place → Place → Taken → Type 0
Takes formats service old new taken = (at : At) → IsAt old at → (to : At) × IsAt new to × Taking formats service at to old new taken

-- one message was handled, or none follows
abbrev pub Going : List Format → Service → At → At → Place → Place → Next → Type 0
Going formats service at to old new (nexts.Answered count) =
    (reply : Reply) × (cost : ℕ) × Turn formats service at reply cost to × (new.steps ≡ old.steps + cost)
    × Appends old.held new.held (bytes_by service reply) × (count ≡ want reply)
Going formats service at to old new nexts.Ended =
    (replies : List Reply) × Stops at replies to × (new.steps ≡ old.steps) × Appends old.held new.held (answer_of service replies)
    × (wants replies ≡ 0)
Going formats service at to old new nexts.ReadFault = (to ≡ at) × IsShort new.taken × (new.steps ≡ old.steps) × (new.held ≡ old.held)
Going formats service at to old new nexts.WriteFault =
    (reply : Reply) × (cost : ℕ) × (Turn formats service at reply cost to ⊎ ((cost ≡ 0) × Stops at (reply ∷ []) to)) × (new.steps ≡ old.steps + cost)
    × AppendsPart old.held new.held (bytes_by service reply)

-- a message gives one want at most
abbrev pub IsFew : Next → Type 0
IsFew (nexts.Answered count) = count ≤ 1
IsFew next = ⊤

abbrev pub Goes : List Format → Service → Place → Place → Next → Type 0
Goes formats service old new next = (at : At) → IsAt old at → (to : At) × IsAt new to × Going formats service at to old new next

-- a stream of which so many messages were handled, and so many of the replies are wants
abbrev pub Stands : List Format → Service → ℕ → ℕ → Place → Place → Type 0
Stands formats service n count old new = (at : At) → IsAt old at → (to : At) × IsAt new to
    × ((replies : List Reply) × (cost : ℕ) × Turns formats service at replies cost to × (length replies ≡ n) × (new.steps ≡ old.steps + cost)
    × Appends old.held new.held (answer_of service replies) × (count ≡ wants replies))
