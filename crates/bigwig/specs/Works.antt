-- What is seen of the outside, and what answering and printing make of it.
use Rattle.std.specs.Prelude.{◌≡◌, ◌⊎◌, ◌<◌, ◌≤◌, ◌+◌, ℕ, List, [], ◌∷◌, ◌++◌, length, Option, Some, codes, decimal}
use Rattle.std.specs.Io.KnownBytes.{Appends}
use Rattle.bw_http.specs.declared.replies.Reply.{Reply}
use Rattle.bw_model.specs.Sessions.{World}
use Rattle.bw_model.specs.Within.{AreWithin}
use Rattle.bw_out.specs.Causes.{Shows}
use Rattle.bw_out.specs.Doors.{Returned, Asks, MayAsk}
use Rattle.bw_out.specs.Told.{Coming}
use Rattle.bw_out.specs.Writes.{AppendsPart}
use Rattle.bw_world.specs.Streams.Courses.{AreLeft, Course, Between, begins}
use Rattle.bw_world.specs.declared.ends.StreamEnd.{StreamEnd}
use Rattle.bw_world.specs.declared.ends.StreamEnd.TheVariants as ends
use Rattle.bw_sound.specs.Good.{AreGood}
use Rattle.bw_command.specs.declared.status.Status.{Status}
use Rattle.bw_questions.specs.Asked.{Ruled}
use Rattle.bw_questions.specs.Questions.{Said, line}
use Rattle.bw_questions.specs.Reports.{Prints}
use Rattle.bw_command.specs.declared.status.Status.TheVariants.{Done, ReadFault, WriteFault, DoorFault}
use Rattle.bw_stable.specs.Deeds.{Deed}

-- what is seen of the outside: what `out` holds, the keys to come, the ports that were asked for, the links to come and
-- those given back, what the file that was closed last had left to read, the steps so far, and what was done to the journal
-- that was closed last
pub record Outside : Type 0 where
  pub printed : Option (List ℕ)
  pub keys : Option Coming
  pub asked : Option (List ℕ)
  pub coming : Option (List (List ℕ))
  pub returned : Option (List Returned)
  pub unread : Option (List ℕ)
  pub steps : ℕ
  pub deeds : Option (List Deed)

abbrev pub outside : Option (List ℕ) → Option Coming → Option (List ℕ) → Option (List (List ℕ)) → Option (List Returned) → Option (List ℕ) → ℕ
    → Option (List Deed) → Outside
outside printed keys asked coming returned unread steps deeds = record {
  printed = printed;
  keys = keys;
  asked = asked;
  coming = coming;
  returned = returned;
  unread = unread;
  steps = steps;
  deeds = deeds;
}

-- These bytes were answered by a run of at most so many messages, whose replies are appended to what was held. What follows
-- them is `rest`, of which some bytes were taken, and `left` was not read. Each page among the replies is good: it is valid by
-- the schema, and a shown page has each field that its show receives. Each value that a session stored is in its field's
-- format.
pub record IsStreamed (most : ℕ) (ruled : Ruled) (from : Between) (bytes : List ℕ) (to : Between) (held now left : Option (List ℕ))
    (end : StreamEnd) : Type 0 where
  pub rest : List ℕ
  pub taken : List ℕ
  pub cost : ℕ
  pub course : Course ruled.formats ruled.service most (begins from bytes) (begins to rest) held now taken cost end
  pub unhandled : AreLeft taken left rest
  pub steps : to.steps ≡ from.steps + cost
  pub pages : (replies : List Reply) → AreGood ruled.formats ruled.service ruled.schema (begins from bytes) replies
  pub within : AreWithin ruled.formats ruled.service to.world

-- the status of a stream that ended so
abbrev pub status_of : StreamEnd → Status
status_of (ends.Ended count) = Done
status_of ends.ReadFault = ReadFault
status_of ends.WriteFault = WriteFault

-- this was said, and nothing else has changed, but for the files that were read before
pub record IsSaid (what : Said) (before after : Outside) (status : Status) : Type 0 where
  pub prints : Prints what before.printed after.printed status
  pub kept : after ≡ record before { printed = after.printed; unread = after.unread }

-- The requests of a file were answered on `out`, from this world on. What was not read of them is what the file had left as it
-- was closed.
pub record IsReplayed (ruled : Ruled) (from : World) (stream : List ℕ) (most : ℕ) (before after : Outside) (status : Status) : Type 0 where
  pub end : StreamEnd
  pub status_is : status ≡ status_of end
  pub streamed : (keys : Coming) → before.keys ≡ Some keys → (to : Between) × (after.keys ≡ Some to.keys) × (after.steps ≡ to.steps)
      × IsStreamed most ruled (record { world = from; keys = keys; steps = before.steps }) stream to before.printed after.printed
      after.unread end
  pub kept : (after.asked ≡ before.asked) × (after.coming ≡ before.coming) × (after.returned ≡ before.returned)

-- A link that had these bytes was answered and given back: by a run of at most one message, and a fault on it is what
-- its counts show.
pub record IsServed (ruled : Ruled) (from : Between) (bytes : List ℕ) (back : Returned) (to : Between) : Type 0 where
  pub end : StreamEnd
  pub streamed : IsStreamed 1 ruled from bytes to (Some []) back.written back.unread end
  pub read_fault : Shows (end ≡ ends.ReadFault) 0 back.read_faults
  pub write_fault : Shows (end ≡ ends.WriteFault) 0 back.write_faults

-- links were given back, each one served, in the order in which they came and over one world; the rest is to come
abbrev pub AreServed : Ruled → Between → List (List ℕ) → List Returned → Between → List (List ℕ) → Type 0
AreServed ruled from links [] to rest = (to ≡ from) × (rest ≡ links)
AreServed ruled from links (back ∷ backs) to rest =
    (bytes : List ℕ) × (more : List (List ℕ)) × (mid : Between) × (links ≡ bytes ∷ more) × IsServed ruled from bytes back mid
    × AreServed ruled mid more backs to rest

-- these links were served and given back behind those of before, and this is left of the door and the keys
pub record AreGivenBack (ruled : Ruled) (from : Between) (links : List (List ℕ)) (given backs : List Returned) (rest : List (List ℕ)) (to : Between)
    (after : Outside) : Type 0 where
  pub served : AreServed ruled from links backs to rest
  pub returned : after.returned ≡ Some (given ++ backs)
  pub coming : after.coming ≡ Some rest
  pub keys : after.keys ≡ Some to.keys
  pub steps : after.steps ≡ to.steps

-- after the links that were given back all was done, since no link is to come or there were as many as may be; or fewer
-- were given back, and the door failed
abbrev pub IsOver : ℕ → List Returned → List (List ℕ) → Status → Type 0
IsOver most backs rest status =
    ((status ≡ Done) × ((rest ≡ []) ⊎ (length backs ≡ most))) ⊎ ((status ≡ DoorFault) × (length backs < most))

-- at most so many links were served from this model world on, where the keys and the door tell
abbrev pub ServesLinks : Ruled → World → ℕ → Outside → Outside → Status → Type 0
ServesLinks ruled world most before after status =
    (keys : Coming) → before.keys ≡ Some keys → (links : List (List ℕ)) → before.coming ≡ Some links → (given : List Returned) → before.returned ≡ Some given
    → (backs : List Returned) × (rest : List (List ℕ)) × (to : Between)
    × AreGivenBack ruled (record { world = world; keys = keys; steps = before.steps }) links given backs rest to after
    × (length backs ≤ most) × IsOver most backs rest status

abbrev pub serving_line : ℕ → List ℕ
serving_line port = codes "serving " ++ line (decimal port)

-- The port couldn't be listened on, and nothing else has changed; or it was asked for, once, and the line that says so was
-- printed in a first part; or the whole line was, and then links were served from this world on. No other port was asked for.
pub data IsServing (ruled : Ruled) (from : World) (port most : ℕ) (before after : Outside) (status : Status) : Type 0 where
  no_port : status ≡ DoorFault → MayAsk before.asked after.asked port → after ≡ record before { asked = after.asked; unread = after.unread }
      → IsServing ruled from port most before after status
  no_line : status ≡ WriteFault → Asks before.asked after.asked port → AppendsPart before.printed after.printed (serving_line port)
      → after ≡ record before { asked = after.asked; printed = after.printed; unread = after.unread } → IsServing ruled from port most before after status
  links_served : (status ≡ Done) ⊎ (status ≡ DoorFault) → Asks before.asked after.asked port → Appends before.printed after.printed (serving_line port)
      → ServesLinks ruled from most before after status → IsServing ruled from port most before after status
