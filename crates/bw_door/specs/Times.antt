-- When a time is over. Times are in milliseconds.
use Rattle.std.specs.Prelude.{ℕ, ◌-◌, nat_le, Bool, ◌||◌, if◌then◌else◌}
use Rattle.bw_door.specs.declared.limits.Limits.{Limits}

-- so much time or more is over since then
abbrev pub is_over : (since now most : ℕ) → Bool
is_over since now most = nat_le most (now - since)

-- a message isn't whole, whose client came and was last heard at these times: the client was silent for too long, or
-- takes too long for all of it
abbrev pub is_message_late : Limits → (now came heard : ℕ) → Bool
is_message_late limits now came heard = is_over heard now limits.silent || is_over came now limits.message

-- a reply was there and some of it was last taken at these times: none of it was taken for too long, or all of it takes
-- too long; where the client was told that nothing more comes, it takes too long to end
abbrev pub is_reply_late : Limits → (now : ℕ) → (told : Bool) → (begun moved : ℕ) → Bool
is_reply_late limits now told begun moved =
    if told then is_over moved now limits.ending else (is_over moved now limits.stuck || is_over begun now limits.reply)
