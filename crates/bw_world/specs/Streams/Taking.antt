-- What comes of one message of a stream that was taken, before anything is sent.
use Rattle.std.specs.Prelude.{◌≡◌, ◌+◌, ℕ, List, [], ◌∷◌, ⊤}
use Rattle.bw_format.specs.declared.format.Format.{Format}
use Rattle.bw_http.specs.Messages.{IsShort}
use Rattle.bw_http.specs.Replies.{IsReply}
use Rattle.bw_http.specs.declared.replies.Reply.TheVariants as replies
use Rattle.bw_http.specs.declared.request.ReadOutcome.{ReadOutcome}
use Rattle.bw_http.specs.declared.request.ReadOutcome.TheVariants as outcomes
use Rattle.bw_lang.specs.declared.service.Service.{Service}
use Rattle.bw_model.specs.Runs.{At, Turn, Stops, want}
use Rattle.bw_world.specs.Stands.{fields_of}
use Rattle.bw_world.specs.Streams.Answers.{Place}
use Rattle.bw_world.specs.declared.outcomes.Taken.{Taken}
use Rattle.bw_world.specs.declared.outcomes.Taken.TheVariants as takens

-- what comes of an outcome that is no request
abbrev pub without_request : ReadOutcome → Taken
without_request outcomes.End = takens.End
without_request outcomes.BadHead = takens.Refused replies.Bad
without_request outcomes.Truncated = takens.Refused replies.Bad
without_request outcomes.HeadTooLong = takens.Refused replies.HeadTooLong
without_request outcomes.NoHost = takens.Refused replies.Bad
without_request outcomes.Coding = takens.Refused replies.LengthRequired
without_request outcomes.BadLength = takens.Refused replies.Bad
without_request outcomes.LengthRequired = takens.Refused replies.LengthRequired
without_request outcomes.BodyTooLong = takens.Refused replies.BodyTooLong
without_request outcomes.Media = takens.Refused replies.Media
without_request outcomes.ReadFault = takens.ReadFault
without_request outcomes.Memory = takens.Answered replies.Memory

-- a message was taken between two places of its stream
abbrev pub Taking : List Format → Service → At → At → Place → Place → Taken → Type 0
Taking formats service at to old new takens.End = Stops at [] to × (new.steps ≡ old.steps)
Taking formats service at to old new takens.ReadFault = (to ≡ at) × IsShort new.taken × (new.steps ≡ old.steps)
Taking formats service at to old new (takens.Refused reply) = Stops at (reply ∷ []) to × (new.steps ≡ old.steps)
Taking formats service at to old new (takens.Answered reply) = (cost : ℕ) × Turn formats service at reply cost to × (new.steps ≡ old.steps + cost)

-- the reply can be written, and a refusal is no want of memory
abbrev pub AreFit : Service → Taken → Type 0
AreFit service (takens.Refused reply) = IsReply (fields_of service) reply × (want reply ≡ 0)
AreFit service (takens.Answered reply) = IsReply (fields_of service) reply
AreFit service taken = ⊤
