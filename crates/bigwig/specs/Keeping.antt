-- What serving, answering and saving with a journal come to.
use Rattle.std.specs.Prelude.{◌≡◌, ◌≢◌, ◌⊎◌, ◌<◌, ◌+◌, ℕ, List, [], ◌∷◌, ◌++◌, length, Option, None, Some, IfSome, codes, ⊤}
use Rattle.std.specs.Io.KnownBytes.{Appends}
use Rattle.bw_journal.specs.Heads.{HasOther, HasVersion, head_of, saved_front, start_sum}
use Rattle.bw_journal.specs.Journals.{Ends, Splits}
use Rattle.bw_journal.specs.Layout.{Entry}
use Rattle.bw_journal.specs.Reading.{IsCut, IsShort}
use Rattle.bw_journal.specs.Saved.{FitsSaved, saved_head, saved_start}
use Rattle.bw_journal.specs.Starts.{FitsOrigin, Origin, head_from, nothing, saved, sum_from}
use Rattle.bw_keeping.specs.Answered.{backs_of}
use Rattle.bw_keeping.specs.Served.{HasServed, View}
use Rattle.bw_keeping.specs.declared.ended.Ended.{Ended}
use Rattle.bw_keeping.specs.declared.ended.Ended.TheVariants as ended
use Rattle.bw_keeping.specs.Streamed.{HasStreamed, sight}
use Rattle.bw_keeping.specs.declared.ended.StreamEnded.{StreamEnded}
use Rattle.bw_keeping.specs.declared.ended.StreamEnded.TheVariants as streams
use Rattle.bw_http.specs.declared.replies.Reply.{Reply}
use Rattle.bw_model.specs.Sessions.{World, empty}
use Rattle.bw_model.specs.Within.{AreWithin}
use Rattle.bw_sound.specs.Good.{AreGood}
use Rattle.bw_world.specs.Streams.Answers.{between}
use Rattle.bw_out.specs.Doors.{Returned, Asks, MayAsk}
use Rattle.bw_out.specs.Told.{Coming}
use Rattle.bw_out.specs.Writes.{AppendsPart}
use Rattle.bw_bringing.specs.Bringing.{Brings}
use Rattle.bw_recall.specs.Recalling.{IsWrong}
use Rattle.bw_recall.specs.Starting.{HasNoStart, HasNoWorld}
use Rattle.bw_recall.specs.declared.recalling.Recalled.{Recalled}
use Rattle.bw_recall.specs.declared.recalling.Recalled.TheVariants as recalled
use Rattle.bw_save.specs.Frozen.{saved_of}
use Rattle.bw_save.specs.Onward.{IsFileAgain, IsNoFile}
use Rattle.bw_stable.specs.Deeds.{Deed, cut, kept}
use Rattle.bw_stable.specs.Replacing.{replacing}
use Rattle.bw_world.specs.Seen.{Seen}
use Rattle.bw_world.specs.Stands.{StandsFor}
use Rattle.bw_questions.specs.Asked.{Ruled, Task}
use Rattle.bw_questions.specs.Asked.Task.{to_answer, to_save, to_serve}
use Rattle.bigwig.specs.Freezing.{IsFrozen, file_of}
use Rattle.bigwig.specs.JournalLines.{journal_line}
use Rattle.bigwig.specs.Loading.{loads}
use Rattle.bw_questions.specs.Questions.{Said, line}
use Rattle.bw_world.specs.Streams.Courses.{Between, begins}
use Rattle.bigwig.specs.Works.{Outside, AreServed, IsSaid, serving_line}
use Rattle.bw_questions.specs.Reports.{Prints}
use Rattle.bw_command.specs.declared.status.Status.{Status}
use Rattle.bw_command.specs.declared.status.Status.TheVariants.{Done, ReadFault, WriteFault, DoorFault, Memory, JournalRefused, JournalFault}

-- ---- what a journal holds

-- the world that a journal begins at: the one in which nothing was requested yet, or that of its saved bytes
abbrev pub BeginsAt : Ruled → List ℕ → Origin → World → Type 0
BeginsAt ruled text nothing world = world ≡ empty ruled.service
BeginsAt ruled text (saved bytes) world = (loads ruled.service text bytes).gives world

-- The bytes are the head of a journal of this text, these entries, which end behind so many bytes and with this check, and then
-- these bytes. The entries bring about this world from the one that the journal begins at.
pub record Brought (ruled : Ruled) (text bytes : List ℕ) (entries : List Entry) (rest : List ℕ) (len sum : ℕ) (world : World) : Type 0 where
  pub origin : Origin
  pub fits : FitsOrigin origin
  pub first : World
  pub begins : BeginsAt ruled text origin first
  pub behind : List ℕ
  pub size : ℕ
  pub head : bytes ≡ head_from text origin ++ behind
  pub splits : Splits (sum_from text origin) behind entries rest
  pub ends : Ends (sum_from text origin) entries size sum
  pub len_is : len ≡ length (head_from text origin) + size
  pub brings : Brings ruled.formats ruled.service first entries world

-- The bytes are a journal of the service, which brings about this world: nothing was kept yet, and no whole head either; or
-- there are entries, and behind them less than one more.
abbrev pub Holds : Ruled → List ℕ → List ℕ → Recalled → World → Type 0
Holds ruled text bytes recalled.New world = IsCut (head_of text) bytes × (world ≡ empty ruled.service)
Holds ruled text bytes (recalled.Done len sum) world =
    (entries : List Entry) × (rest : List ℕ) × Brought ruled text bytes entries rest len sum world × IsShort sum rest
Holds ruled text bytes _ world = ⊥

-- the bytes are the head of a journal that begins at saved bytes, and behind so many of them is nothing that is loaded
pub record IsUnloaded (ruled : Ruled) (text bytes : List ℕ) (len : ℕ) : Type 0 where
  pub world : List ℕ
  pub fits : FitsSaved world
  pub behind : List ℕ
  pub head : bytes ≡ saved_head text world ++ behind
  pub len_is : len ≡ length (saved_front text)
  pub said : Said
  pub refused : (loads ruled.service text world).says said

-- why the bytes are no journal of the service
abbrev pub Refuses : Ruled → List ℕ → List ℕ → Recalled → Type 0
Refuses ruled text bytes (recalled.Damaged len) =
    ((len ≡ 0) × HasNoStart text bytes) ⊎ (HasNoWorld text bytes len ⊎ (IsUnloaded ruled text bytes len
    ⊎ ((entries : List Entry) × (rest : List ℕ) × (sum : ℕ) × (world : World) × Brought ruled text bytes entries rest len sum world × IsWrong sum rest)))
Refuses ruled text bytes (recalled.Version version) = HasVersion bytes version
Refuses ruled text bytes recalled.Other = HasOther text bytes
Refuses ruled text bytes _ = ⊥

-- ---- what is done to it before any link

-- a head is put there where there is none, and what is less than an entry is cut off
pub data IsBegun (text : List ℕ) (given : Option (List Returned)) (printed : Option (List ℕ)) : Recalled → List Deed → Type 0 where
  head : IsBegun text given printed recalled.New (cut 0 ∷ (kept (head_of text) given printed ∷ []))
  behind : (len sum : ℕ) → IsBegun text given printed (recalled.Done len sum) (cut len ∷ [])

-- the check behind what a journal then holds
abbrev pub sum_behind : List ℕ → Recalled → ℕ
sum_behind text (recalled.Done len sum) = sum
sum_behind text _ = start_sum text

-- from how many bytes on a journal is begun anew for a task, if it ever is
abbrev pub rotate_of : Task → Option ℕ
rotate_of (to_serve port most rotate) = rotate
rotate_of (to_answer stream most) = None
rotate_of to_save = None

-- a journal of so many bytes is longer
abbrev pub IsLonger : Option ℕ → ℕ → Type 0
IsLonger None len = ⊥
IsLonger (Some limit) len = limit < len

-- the world of the code stands for this one, and from the file of what waits in it something is loaded again
pub record IsRenewedBy (ruled : Ruled) (text : List ℕ) (seen : Seen) (world : World) : Type 0 where
  pub service : seen.service ≡ ruled.service
  pub stands : StandsFor seen world
  pub file : IsFileAgain ruled.service text (saved_of seen) (file_of text seen)

-- there is no such file
pub record IsTooMuch (ruled : Ruled) (text : List ℕ) (seen : Seen) (world : World) : Type 0 where
  pub service : seen.service ≡ ruled.service
  pub stands : StandsFor seen world
  pub none : IsNoFile ruled.service text (saved_of seen)

-- what was found stays: it isn't longer, or it can't be begun anew
abbrev pub Stays : Ruled → List ℕ → Option ℕ → Recalled → World → Type 0
Stays ruled text rotate (recalled.Done len sum) world = (IsLonger rotate len → ⊥) ⊎ ((seen : Seen) × IsTooMuch ruled text seen world)
Stays ruled text rotate _ world = ⊤

-- These deeds would begin a journal of this content for the task: it is made ready as it was found, or a new file comes into its place.
pub data WouldBegin (ruled : Ruled) (text content : List ℕ) (task : Task) (given : Option (List Returned)) (printed : Option (List ℕ)) (all : List Deed)
    : Type 0 where
  ready : (found : Recalled) (world : World) → Holds ruled text content found world → Stays ruled text (rotate_of task) found world
      → IsBegun text given printed found all → WouldBegin ruled text content task given printed all
  anew : (len sum : ℕ) (world : World) (seen : Seen) → Holds ruled text content (recalled.Done len sum) world → IsLonger (rotate_of task) len
      → IsRenewedBy ruled text seen world → all ≡ replacing (saved_head text (file_of text seen)) → WouldBegin ruled text content task given printed all

-- the first of these deeds were done, none or all among them, where told
abbrev pub AreFirst : Option (List Deed) → List Deed → Type 0
AreFirst deeds all = IfSome deeds (λ done. (rest : List Deed) × (done ++ rest ≡ all))

-- no journal was closed, or one to which nothing was done
abbrev pub IsUntouched : Option (List Deed) → Option (List Deed) → Type 0
IsUntouched before after = (after ≡ before) ⊎ IfSome after (λ all. all ≡ [])

-- ---- links

-- what is seen between two links, where the world is seen so and what is kept has this check
abbrev pub view_of : Seen → ℕ → Outside → View
view_of world sum o = record {
  world = world;
  keys = o.keys;
  coming = o.coming;
  returned = o.returned;
  deeds = o.deeds;
  sum = sum;
  steps = o.steps;
}

-- Links were served from this model world on. Each was answered and given back as without a journal, in the order in which
-- they came, and what is kept of it was kept before it was given back and before a byte was written on it. Links behind these,
-- of which nothing was kept, were given back without a byte, where the door failed or the journal.
pub record AreKeptLinks (ruled : Ruled) (most sum : ℕ) (from : Between) (links : List (List ℕ)) (given : List Returned) (deeds : List Deed)
    (after : Outside) (end : Ended) : Type 0 where
  pub world : Seen
  pub behind : ℕ
  pub served : HasServed ruled.formats ruled.service most sum from links given deeds
      (view_of world behind after) end
  pub good : AreServed ruled from links (backs_of served.exchanges) served.to
      served.rest

-- so it is where the keys, the door and the journal tell
abbrev pub ServesKept : Ruled → World → ℕ → ℕ → Outside → Outside → Ended → Type 0
ServesKept ruled world sum most before after end =
    (keys : Coming) → before.keys ≡ Some keys → (links : List (List ℕ)) → before.coming ≡ Some links → (given : List Returned) → before.returned ≡ Some given
    → (deeds : List Deed) → before.deeds ≡ Some deeds
    → AreKeptLinks ruled most sum (record { world = world; keys = keys; steps = before.steps }) links given deeds after end

-- what is printed where the journal failed
abbrev pub fault_line : List ℕ
fault_line = line (codes "journal fault")

-- What was printed behind the line of the port, and the status: that the journal failed, or nothing.
abbrev pub EndsWith : Option (List ℕ) → Option (List ℕ) → Ended → Status → Type 0
EndsWith held now ended.Done status = (status ≡ Done) × (now ≡ held)
EndsWith held now ended.DoorFault status = (status ≡ DoorFault) × (now ≡ held)
EndsWith held now ended.JournalFault status = Prints (record { status = JournalFault; text = fault_line }) held now status

-- What comes of serving beside a journal that is begun, from this model world on and behind this check. The port couldn't be
-- listened on, and nothing else has changed; or its line was printed in a first part; or the whole line was, and then links were
-- served.
pub data Keeps (ruled : Ruled) (world : World) (port most sum : ℕ) (before after : Outside) (status : Status) : Type 0 where
  no_port : status ≡ DoorFault → MayAsk before.asked after.asked port → after ≡ record before { asked = after.asked }
      → Keeps ruled world port most sum before after status
  no_line : status ≡ WriteFault → Asks before.asked after.asked port → AppendsPart before.printed after.printed (serving_line port)
      → after ≡ record before { asked = after.asked; printed = after.printed } → Keeps ruled world port most sum before after status
  links_served : (printed : Option (List ℕ)) (end : Ended) → Asks before.asked after.asked port → Appends before.printed printed (serving_line port)
      → EndsWith printed after.printed end status → ServesKept ruled world sum most before after end → Keeps ruled world port most sum before after status

-- ---- requests

-- The requests of a stream were answered from this model world on, one after another, and what is kept of each was kept before a
-- byte of its reply was printed. `now` is what is printed behind their replies. Each page among these is good, and each value that
-- a session stored is in its field's format.
pub record AreKeptRequests (ruled : Ruled) (most sum : ℕ) (from : Between) (stream printed : List ℕ) (deeds : List Deed)
    (returned : Option (List Returned)) (now : Option (List ℕ)) (after : Outside) (end : StreamEnded) : Type 0 where
  pub world : Seen
  pub taken : List ℕ
  pub behind : ℕ
  pub streamed : HasStreamed ruled.formats ruled.service most returned sum from.steps (begins from stream) printed deeds
      (sight (between world taken after.unread now after.keys after.steps) after.deeds behind) end
  pub pages : (replies : List Reply) → AreGood ruled.formats ruled.service ruled.schema (begins from stream) replies
  pub within : AreWithin ruled.formats ruled.service streamed.to.world

-- so it is where the keys, the output and the journal tell
abbrev pub AnswersKept : Ruled → World → List ℕ → ℕ → ℕ → Outside → Option (List ℕ) → Outside → StreamEnded → Type 0
AnswersKept ruled world stream most sum before now after end =
    (keys : Coming) → before.keys ≡ Some keys → (printed : List ℕ) → before.printed ≡ Some printed → (deeds : List Deed) → before.deeds ≡ Some deeds
    → AreKeptRequests ruled most sum (record { world = world; keys = keys; steps = before.steps }) stream printed deeds before.returned now after end

-- What was printed behind the replies, and the status: that the journal failed, or nothing.
abbrev pub AnswersEndWith : Option (List ℕ) → Option (List ℕ) → StreamEnded → Status → Type 0
AnswersEndWith held now (streams.Ended count) status = (status ≡ Done) × (now ≡ held)
AnswersEndWith held now streams.ReadFault status = (status ≡ ReadFault) × (now ≡ held)
AnswersEndWith held now streams.WriteFault status = (status ≡ WriteFault) × (now ≡ held)
AnswersEndWith held now streams.JournalFault status = Prints (record { status = JournalFault; text = fault_line }) held now status

-- What comes of answering a stream beside a journal that is begun, from this model world on and behind this check. What was not
-- read of the stream is what its file had left as it was closed.
pub record Resumes (ruled : Ruled) (world : World) (stream : List ℕ) (most sum : ℕ) (before after : Outside) (status : Status) : Type 0 where
  pub end : StreamEnded
  pub printed : Option (List ℕ)
  pub ends : AnswersEndWith printed after.printed end status
  pub answers : AnswersKept ruled world stream most sum before printed after end
  pub kept : (after.asked ≡ before.asked) × (after.coming ≡ before.coming) × (after.returned ≡ before.returned)

-- ---- the work

-- what comes of a task beside a journal that is begun
abbrev pub Follows : Ruled → Task → World → ℕ → Outside → Outside → Status → Type 0
Follows ruled (to_serve port most rotate) world sum before after status = Keeps ruled world port most sum before after status
Follows ruled (to_answer stream most) world sum before after status = Resumes ruled world stream most sum before after status
Follows ruled to_save world sum before after status = ⊥

-- What comes of a task over an accepted service with a journal of this content. There was a read fault or no memory for it, or it
-- is refused, and nothing was done to it; or, where it isn't only read, it failed with nothing done to it, as where it couldn't be
-- opened, or as it was begun, before any link or request, with the first of the deeds done that would have begun it, none or all
-- among them, and that was printed; or it was begun, and then the task was done beside it, from the world that the journal brings
-- about; or so it was, and a new file came into its place first, which begins at the file of that world; or what waits in that
-- world was saved, and nothing was done to the journal.
pub data IsKept (ruled : Ruled) (text content : List ℕ) (task : Task) (before after : Outside) (status : Status) : Type 0 where
  stopped : (status ≡ ReadFault) ⊎ (status ≡ Memory) → after ≡ record before { unread = after.unread; steps = after.steps; deeds = after.deeds }
      → IsUntouched before.deeds after.deeds → IsKept ruled text content task before after status
  refused : (why : Recalled) → Refuses ruled text content why
      → IsSaid (record { status = JournalRefused; text = line (journal_line why) }) (record before { steps = after.steps; deeds = after.deeds }) after status
      → IsUntouched before.deeds after.deeds → IsKept ruled text content task before after status
  failed : task ≢ to_save → IsSaid (record { status = JournalFault; text = fault_line }) (record before { steps = after.steps; deeds = after.deeds }) after status
      → IsUntouched before.deeds after.deeds → IsKept ruled text content task before after status
  half_begun : task ≢ to_save → (all : List Deed) → WouldBegin ruled text content task before.returned before.printed all → AreFirst after.deeds all
      → IsSaid (record { status = JournalFault; text = fault_line }) (record before { steps = after.steps; deeds = after.deeds }) after status
      → IsKept ruled text content task before after status
  begun : (found : Recalled) (world : World) (mid : Outside) → Holds ruled text content found world → Stays ruled text (rotate_of task) found world
      → mid ≡ record before { unread = mid.unread; steps = mid.steps; deeds = mid.deeds }
      → IfSome mid.deeds (IsBegun text before.returned before.printed found) → Follows ruled task world (sum_behind text found) mid after status
      → IsKept ruled text content task before after status
  renewed : (len sum : ℕ) (world : World) (seen : Seen) (mid : Outside) → Holds ruled text content (recalled.Done len sum) world
      → IsLonger (rotate_of task) len → IsRenewedBy ruled text seen world
      → mid ≡ record before { unread = mid.unread; steps = mid.steps; deeds = mid.deeds }
      → IfSome mid.deeds (λ all. all ≡ replacing (saved_head text (file_of text seen)))
      → Follows ruled task world (saved_start text (file_of text seen)) mid after status → IsKept ruled text content task before after status
  preserved : (found : Recalled) (world : World) (seen : Seen) → task ≡ to_save → Holds ruled text content found world → seen.service ≡ ruled.service
      → StandsFor seen world → IsFrozen text seen before.printed after.printed status
      → after ≡ record before { printed = after.printed; unread = after.unread; steps = after.steps; deeds = after.deeds }
      → IsUntouched before.deeds after.deeds → IsKept ruled text content task before after status
