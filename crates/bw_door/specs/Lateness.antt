-- Whose time is over.
use Rattle.std.specs.Prelude.{ℕ, Bool}
use Rattle.bw_door.specs.declared.limits.Limits.{Limits}
use Rattle.bw_door.specs.declared.client.Client.{Client}
use Rattle.bw_door.specs.declared.leaving.Leaving.{Leaving}
use Rattle.bw_door.specs.Times.{is_message_late, is_reply_late}

-- the time of a client is over whose message isn't whole
abbrev pub is_client_late : {S : Type 0} → Limits → ℕ → Client S → Bool
is_client_late limits now client = is_message_late limits now client.came client.heard

-- the time of a client is over that gets its reply
abbrev pub is_leaving_late : {S : Type 0} → Limits → ℕ → Leaving S → Bool
is_leaving_late limits now leaving = is_reply_late limits now leaving.told leaving.begun leaving.moved
