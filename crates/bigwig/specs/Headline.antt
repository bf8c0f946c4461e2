-- What requests are answered by, in words of its own: the service, its meaning, the pages, the formats of fields, and the saved
-- sessions that it goes on from; what `light` prints; what `freeze` saves; and what a scripted user is answered.
-- It follows from what the program comes to. That the check accepted the service isn't said here, but what follows from it:
-- each page that is answered is good.
use Rattle.std.specs.Prelude.{◌≡◌, ◌⊎◌, ◌<◌, ℕ, false, List, [], ◌∷◌, ◌++◌, length, Option, None, Some, Ok}
use Rattle.std.specs.Io.KnownBytes.{Appends}
use Rattle.std.specs.List.{AllByRecursion}
use Rattle.std.specs.Str.Lines.{lines}
use Rattle.bw_format.specs.FormatFile.{Gives}
use Rattle.bw_format.specs.declared.format.Format.{Format}
use Rattle.bw_http.specs.Paths.{spelling}
use Rattle.bw_http.specs.declared.replies.Reply.{Reply}
use Rattle.bw_http.specs.declared.request.Path.TheVariants.{Start}
use Rattle.bw_lang.specs.Service.Reads.{Reads}
use Rattle.bw_lang.specs.declared.service.Service.{Service}
use Rattle.bw_lights.specs.Lights.{AreLights}
use Rattle.bw_load.specs.Loaded.{world_of}
use Rattle.bw_model.specs.Laws.{is_page}
use Rattle.bw_model.specs.Runs.{At, Turn, Stops, answer_of, wants}
use Rattle.bw_model.specs.Sessions.{World, empty}
use Rattle.bw_model.specs.Within.{AreWithin}
use Rattle.bw_out.specs.Doors.{Returned}
use Rattle.bw_out.specs.Told.{Coming, Disk}
use Rattle.bw_saved.specs.Codec.{IsBytes}
use Rattle.bw_saved.specs.FileLaws.{IsFile}
use Rattle.bw_saved.specs.declared.saved.Saved.{Saved}
use Rattle.bw_schema.specs.Reads.{Reads as ReadsSchema}
use Rattle.bw_schema.specs.declared.default_schema.TheConstants.{BUILT_IN}
use Rattle.bw_schema.specs.declared.schema.Schema.{Schema}
use Rattle.bw_sound.specs.Good.{IsGood}
use Rattle.bw_types.specs.Typing.{IsTypedService}
use Rattle.bw_world.specs.Seen.{Seen}
use Rattle.bw_world.specs.Stands.{StandsFor}
use Rattle.bw_user.specs.Messages.{get}
use Rattle.bw_visit.specs.Scripts.{IsScript}
use Rattle.bw_world.specs.Streams.Courses.{Between}
use Rattle.bw_visit.specs.Visits.{End, Visits, is_amiss}
use Rattle.bw_command.specs.Commands.{command_of}
use Rattle.bigwig.specs.Freezing.{file_of}
use Rattle.bigwig.specs.Loading.{Loads}
use Rattle.bigwig.specs.Works.{Outside}
use Rattle.bw_command.specs.declared.command.Command.TheVariants.{Replay, Serve, Light, Freeze, Visit}
use Rattle.bw_command.specs.declared.command.Judging.{Judging}
use Rattle.bw_command.specs.declared.status.Status.{Status}
use Rattle.bw_command.specs.declared.status.Status.TheVariants.{Done, DoorFault}

-- ---- a stream of requests

-- A page is good, and each other reply has changed nothing: no session, and no shared variable. Each value that a session
-- stored for a field is in the field's format, if it has one.
pub record IsRight (formats : List Format) (service : Service) (schema : Schema) (before after : World) (reply : Reply) : Type 0 where
  pub good : IsGood service schema before after reply
  pub quiet : is_page reply ≡ false → after ≡ before
  pub within : AreWithin formats service after

-- messages were answered one after another, from there to there, by these replies, and each of them is right
abbrev pub AreRight : List Format → Service → Schema → At → List Reply → At → Type 0
AreRight formats service schema at [] to = to ≡ at
AreRight formats service schema at (reply ∷ replies) to =
    (cost : ℕ) × (mid : At) × Turn formats service at reply cost mid × IsRight formats service schema at.world mid.world reply
    × AreRight formats service schema mid replies to

-- These bytes are the answer to a stream of at most so many messages: to one after another, until there are that many or none
-- follows. What is no message is refused, and changes nothing.
pub record IsAnswer (formats : List Format) (service : Service) (schema : Schema) (most : ℕ) (at : At) (answer : List ℕ) (to : At) : Type 0 where
  pub replies : List Reply
  pub last : List Reply
  pub mid : At
  pub right : AreRight formats service schema at replies mid
  pub ends : ((length replies ≡ most) × (last ≡ []) × (to ≡ mid)) ⊎ ((length replies < most) × Stops mid last to)
  pub bytes : answer ≡ answer_of service (replies ++ last)

-- ---- links, one after another

-- A link was answered and given back: it holds the answer to its first message, or a first part of it where a write failed,
-- or nothing where a read failed, and then nothing has changed.
pub data IsAnswered (formats : List Format) (service : Service) (schema : Schema) (at : At) (back : Returned) (to : At) : Type 0 where
  whole : (answer : List ℕ) → IsAnswer formats service schema 1 at answer to → back.written ≡ Some answer
      → IsAnswered formats service schema at back to
  broken : (answer front rest : List ℕ) → IsAnswer formats service schema 1 at answer to → front ++ rest ≡ answer → back.written ≡ Some front
      → 0 < back.write_faults → IsAnswered formats service schema at back to
  unread : to ≡ at → back.written ≡ Some [] → 0 < back.read_faults → IsAnswered formats service schema at back to

-- links were answered and given back in the order in which they came, over one world; the rest is to come
abbrev pub AreAnswered : List Format → Service → Schema → World → Coming → List (List ℕ) → List Returned → List (List ℕ) → Type 0
AreAnswered formats service schema world keys links [] rest = rest ≡ links
AreAnswered formats service schema world keys links (back ∷ backs) rest =
    (bytes : List ℕ) × (more : List (List ℕ)) × (to : At) × (links ≡ bytes ∷ more)
    × IsAnswered formats service schema (record { world = world; bytes = bytes; keys = keys }) back to
    × AreAnswered formats service schema to.world to.keys more backs rest

-- ---- the program

-- the text of the schema that is named, or of the built-in one
abbrev pub rules_text : Disk → Option (List ℕ) → Option (List ℕ)
rules_text disk None = Some BUILT_IN.now
rules_text disk (Some name) = disk name

-- the service of a file, which is well typed, and the schema by which its pages are judged
pub record IsServiceOf (disk : Disk) (name : List ℕ) (named : Option (List ℕ)) (service : Service) (schema : Schema) : Type 0 where
  pub content : List ℕ
  pub found : disk name ≡ Some content
  pub reads : Reads content service
  pub typed : IsTypedService service
  pub rules : List ℕ
  pub rules_are : rules_text disk named ≡ Some rules
  pub is_schema : ReadsSchema rules schema.root schema.elements

-- the formats of a file, or none where none is named
abbrev pub AreFormatsOf : Disk → Option (List ℕ) → List Format → Type 0
AreFormatsOf disk None formats = formats ≡ []
AreFormatsOf disk (Some name) formats = (content : List ℕ) × (disk name ≡ Some content) × Gives content (Ok formats)

-- The sessions of a file were loaded for the service with this text, and nothing was requested since: it is the file of them, since
-- what a file has is bytes.
pub record IsLoaded (disk : Disk) (load text : List ℕ) (service : Service) (from : World) : Type 0 where
  pub bytes : List ℕ
  pub found : disk load ≡ Some bytes
  pub saved : Saved
  pub loads : Loads service text bytes (Ok saved)
  pub is : IsBytes bytes → IsFile service text bytes saved
  pub world : from ≡ world_of service saved

-- the world from which a service with this text goes on: of the file that is named, or the one in which nothing was requested yet
abbrev pub StartsAt : Disk → Option (List ℕ) → List ℕ → Service → World → Type 0
StartsAt disk None text service from = from ≡ empty service
StartsAt disk (Some load) text service from = IsLoaded disk load text service from

-- The requests of a file were answered on `out` by the service of another, from the world on that it starts at.
-- It is said where the keys to come are told.
pub record IsReplay (disk : Disk) (name requests : List ℕ) (named form load : Option (List ℕ)) (most : ℕ) (before after : Outside) : Type 0 where
  pub service : Service
  pub schema : Schema
  pub formats : List Format
  pub formats_are : AreFormatsOf disk form formats
  pub is : IsServiceOf disk name named service schema
  pub start : World
  pub starts : StartsAt disk load is.content service start
  pub stream : List ℕ
  pub found : disk requests ≡ Some stream
  pub answered : (keys : Coming) → before.keys ≡ Some keys → (answer : List ℕ) × (to : At)
      × IsAnswer formats service schema most (record { world = start; bytes = stream; keys = keys }) answer to
      × Appends before.printed after.printed answer

-- Links were answered by the service of a file, from the world on that it starts at, and no other link was given back. Where all
-- was done no link is to come, or as many were answered as may be.
-- It is said where the keys to come are told, and the links to come and those given back.
pub record IsServe (disk : Disk) (name : List ℕ) (named form load : Option (List ℕ)) (most : ℕ) (before after : Outside) (status : Status) : Type 0 where
  pub service : Service
  pub schema : Schema
  pub formats : List Format
  pub formats_are : AreFormatsOf disk form formats
  pub is : IsServiceOf disk name named service schema
  pub start : World
  pub starts : StartsAt disk load is.content service start
  pub answered : (keys : Coming) → before.keys ≡ Some keys → (links : List (List ℕ)) → before.coming ≡ Some links → (given : List Returned)
      → before.returned ≡ Some given → (backs : List Returned) × (rest : List (List ℕ)) × (after.returned ≡ Some (given ++ backs))
      × (after.coming ≡ Some rest) × AreAnswered formats service schema start keys links backs rest
      × (status ≡ Done → (rest ≡ []) ⊎ (length backs ≡ most))

-- the lights of a file of texts were printed, by the formats of another
pub record IsLit (disk : Disk) (form texts : List ℕ) (before after : Outside) : Type 0 where
  pub formats : List Format
  pub formats_are : AreFormatsOf disk (Some form) formats
  pub content : List ℕ
  pub found : disk texts ≡ Some content
  pub printed : List ℕ
  pub lights : AreLights formats (lines content) printed
  pub appended : Appends before.printed after.printed printed

-- What waits behind the requests of a file was saved on `out`: the requests were answered by the service of another, from the world
-- on that it starts at, none of them for want of memory, and the file that was printed is that of a world that stands for the one
-- which they leave.
-- It is said where the keys to come are told.
pub record IsFreeze (disk : Disk) (name requests : List ℕ) (named form load : Option (List ℕ)) (most : ℕ) (before after : Outside) : Type 0 where
  pub service : Service
  pub schema : Schema
  pub formats : List Format
  pub formats_are : AreFormatsOf disk form formats
  pub is : IsServiceOf disk name named service schema
  pub start : World
  pub starts : StartsAt disk load is.content service start
  pub stream : List ℕ
  pub found : disk requests ≡ Some stream
  pub answered : (keys : Coming) → before.keys ≡ Some keys → (answer : List ℕ) × (to : At)
      × (handled : IsAnswer formats service schema most (record { world = start; bytes = stream; keys = keys }) answer to)
      × (wants (handled.replies ++ handled.last) ≡ 0)
      × (seen : Seen) × (seen.service ≡ service) × StandsFor seen to.world × Appends before.printed after.printed (file_of is.content seen)

-- A scripted user visited the service of a file by the script of another, from the world in which nothing was requested yet:
-- its messages are made from the replies and the lines, the replies were printed, and none says that a field is lacking or
-- repeated. It is said where the keys to come are told.
pub record IsVisit (disk : Disk) (name by : List ℕ) (named form : Option (List ℕ)) (before after : Outside) : Type 0 where
  pub service : Service
  pub schema : Schema
  pub formats : List Format
  pub formats_are : AreFormatsOf disk form formats
  pub is : IsServiceOf disk name named service schema
  pub content : List ℕ
  pub found : disk by ≡ Some content
  pub start : List ℕ
  pub answers : List ℕ
  pub is_script : IsScript content start answers
  pub answered : (keys : Coming) → before.keys ≡ Some keys → (to : Between) × (replies : List Reply)
      × Visits formats service (record { world = empty service; keys = keys; steps = before.steps }) (get (spelling (Start start))) answers replies to
      End.Done × AllByRecursion (λ (r : Reply). is_amiss r ≡ false) replies × Appends before.printed after.printed (answer_of service replies)

-- The headline: what each `replay` that was done has answered, each `serve` that was done or whose door failed, both without a
-- journal, what each `light` that was done has printed, what each `freeze` that was done has saved, and what a scripted user was
-- answered whose `visit` was done. Of journals, and of answers without a control, `Comes` speaks alone.
-- Where a read or a write of a `replay` failed, what was answered before is said by `Comes` alone: such a status also comes
-- before any request.
pub record Headline (words : List (List ℕ)) (disk : Disk) (before after : Outside) (status : Status) : Type 0 where
  pub replay : (name requests : List ℕ) (judging : Judging) (form load : Option (List ℕ)) (most : ℕ)
      → command_of words ≡ Some (Replay name requests judging form load most) → status ≡ Done
      → IsReplay disk name requests judging.schema form load most before after
  pub serve : (name : List ℕ) (judging : Judging) (form load : Option (List ℕ)) (port most : ℕ)
      → command_of words ≡ Some (Serve name judging form load port most) → (status ≡ Done) ⊎ (status ≡ DoorFault)
      → IsServe disk name judging.schema form load most before after status
  pub light : (form texts : List ℕ) → command_of words ≡ Some (Light form texts) → status ≡ Done → IsLit disk form texts before after
  pub freeze : (name requests : List ℕ) (judging : Judging) (form load : Option (List ℕ)) (most : ℕ)
      → command_of words ≡ Some (Freeze name requests judging form load most) → status ≡ Done
      → IsFreeze disk name requests judging.schema form load most before after
  pub visit : (name by : List ℕ) (judging : Judging) (form : Option (List ℕ)) → command_of words ≡ Some (Visit name by judging form) → status ≡ Done
      → IsVisit disk name by judging.schema form before after
