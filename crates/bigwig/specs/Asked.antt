-- The questions of each command, in their order. A later command, option or file is one line more.
use Rattle.std.specs.Prelude.{◌≡◌, ⊤, ℕ, List, Option, None, Some}
use Rattle.bw_lang.specs.declared.service.Service.{Service}
use Rattle.bw_model.specs.Sessions.{World, empty}
use Rattle.bw_out.specs.Told.{Disk}
use Rattle.bw_questions.specs.Behind.{content_of}
use Rattle.bigwig.specs.Loading.{loads}
use Rattle.bw_questions.specs.Questions.{Question, ◌>>=◌, found, line}
use Rattle.bigwig.specs.Scripts.{script}
use Rattle.bw_command.specs.declared.command.Command.{Command}
use Rattle.bw_command.specs.declared.command.Judging.{Judging}
use Rattle.bw_command.specs.declared.command.Command.TheVariants.{Check, Replay, Resume, Serve, Keep, Valid, Make, Light, Freeze, Preserve, Visit}
use Rattle.bw_questions.specs.Asked.{command, file, Ruled, accepted, accepted_file, Task, Work, made_work, ruled, lights, check_work, valid_work}
use Rattle.bw_questions.specs.Asked.Task.{to_serve, to_answer, to_save}
use Rattle.bw_questions.specs.Asked.Work.{replays, serves, keeps, freezes, visits}

-- the world of a file of saved sessions, of a service of this name
abbrev pub loaded_file : Disk → (name load : List ℕ) → Service → Question World
loaded_file disk name load service = file disk name >>= (λ text. file disk load >>= loads service text)

-- the world from which a service goes on: of the saved sessions that are named, or the one in which nothing was requested yet
abbrev pub start : Disk → List ℕ → Option (List ℕ) → Service → Question World
start disk name None service = found (empty service)
start disk name (Some load) service = loaded_file disk name load service

-- the request file of a service that is served from a world on
abbrev pub replayed : Disk → List ℕ → ℕ → Ruled → World → Question Work
replayed disk requests most ruled from = file disk requests >>= (λ stream. found (replays ruled from stream most))

-- that world, and then the request file
abbrev pub replayed_from : Disk → (name : List ℕ) (load : Option (List ℕ)) (requests : List ℕ) → ℕ → Ruled → Question Work
replayed_from disk name load requests most ruled = start disk name load ruled.service >>= replayed disk requests most ruled

-- the port of a service that is served from a world on
abbrev pub at_port : ℕ → ℕ → Ruled → World → Question Work
at_port port most ruled from = found (serves ruled from port most)

-- that world, and then the port
abbrev pub served_from : Disk → (name : List ℕ) (load : Option (List ℕ)) → ℕ → ℕ → Ruled → Question Work
served_from disk name load port most ruled = start disk name load ruled.service >>= at_port port most ruled

-- the request file of a service of which is saved what waits
abbrev pub frozen : Disk → (name requests : List ℕ) → ℕ → Ruled → World → Question Work
frozen disk name requests most ruled from =
    file disk name >>= (λ text. file disk requests >>= (λ stream. found (freezes ruled from text stream most)))

-- that world, and then the request file
abbrev pub frozen_from : Disk → (name : List ℕ) (load : Option (List ℕ)) (requests : List ℕ) → ℕ → Ruled → Question Work
frozen_from disk name load requests most ruled = start disk name load ruled.service >>= frozen disk name requests most ruled

-- a service beside a journal. Where there is no file of its name, the journal is empty.
abbrev pub beside : Disk → List ℕ → List ℕ → Task → Ruled → Question Work
beside disk name journal task ruled = file disk name >>= (λ text. found (keeps ruled text (content_of (disk journal)) task))

-- the request file of a service that is served beside a journal
abbrev pub resumed : Disk → List ℕ → List ℕ → List ℕ → ℕ → Ruled → Question Work
resumed disk name from journal most ruled = file disk from >>= (λ stream. beside disk name journal (to_answer stream most) ruled)

-- the script of a service that is visited
abbrev pub followed : Ruled → List ℕ → Question Work
followed ruled content = script content >>= (λ s. found (visits ruled s))

-- the script file of a service that is visited
abbrev pub visited : Disk → List ℕ → Ruled → Question Work
visited disk name ruled = file disk name >>= followed ruled

-- the questions of a command, and the work that they lead to
abbrev pub work : Disk → Command → Question Work
work disk (Check service judging explain) = check_work disk service judging explain
work disk (Replay service requests judging form load most) =
    accepted_file disk service judging form >>= replayed_from disk service load requests most
work disk (Resume service from judging form journal most) = accepted_file disk service judging form >>= resumed disk service from journal most
work disk (Serve service judging form load port most) = accepted_file disk service judging form >>= served_from disk service load port most
work disk (Keep service judging form journal rotate port most) =
    accepted_file disk service judging form >>= beside disk service journal (to_serve port most rotate)
work disk (Valid name named) = valid_work disk name named
work disk (Make count workers) = made_work count
work disk (Light form texts) = lights disk form texts
work disk (Freeze service requests judging form load most) =
    accepted_file disk service judging form >>= frozen_from disk service load requests most
work disk (Preserve service judging form journal) = accepted_file disk service judging form >>= beside disk service journal to_save
work disk (Visit service by judging form) = accepted_file disk service judging form >>= visited disk by

-- all that the program finds out from its words and its files
abbrev pub asked : List (List ℕ) → Disk → Question Work
asked words disk = command words >>= work disk

-- ---- commands that run a service

-- the command runs a service without a journal
abbrev pub RunsAlone : Command → Type 0
RunsAlone (Replay service requests judging form load most) = ⊤
RunsAlone (Serve service judging form load port most) = ⊤
RunsAlone (Freeze service requests judging form load most) = ⊤
RunsAlone (Visit service by judging form) = ⊤
RunsAlone _ = ⊥

-- the command runs a service beside a journal
abbrev pub RunsBeside : Command → Type 0
RunsBeside (Resume service from judging form journal most) = ⊤
RunsBeside (Keep service judging form journal rotate port most) = ⊤
RunsBeside (Preserve service judging form journal) = ⊤
RunsBeside _ = ⊥

-- the command runs the service of a file of this name, which is judged so, and whose fields have the formats of this file
abbrev pub Names : Command → List ℕ → Judging → Option (List ℕ) → Type 0
Names (Replay service requests judging form load most) s j f = (s ≡ service) × (j ≡ judging) × (f ≡ form)
Names (Resume service from judging form journal most) s j f = (s ≡ service) × (j ≡ judging) × (f ≡ form)
Names (Serve service judging form load port most) s j f = (s ≡ service) × (j ≡ judging) × (f ≡ form)
Names (Keep service judging form journal rotate port most) s j f = (s ≡ service) × (j ≡ judging) × (f ≡ form)
Names (Freeze service requests judging form load most) s j f = (s ≡ service) × (j ≡ judging) × (f ≡ form)
Names (Preserve service judging form journal) s j f = (s ≡ service) × (j ≡ judging) × (f ≡ form)
Names (Visit service by judging form) s j f = (s ≡ service) × (j ≡ judging) × (f ≡ form)
Names _ s j f = ⊥

-- what a command asks of a service that is accepted, whose file has this name: no more, where it runs none
abbrev pub of_service : Disk → List ℕ → Command → Ruled → Question Work
of_service disk name (Replay service requests judging form load most) = replayed_from disk name load requests most
of_service disk name (Resume service from judging form journal most) = resumed disk name from journal most
of_service disk name (Serve service judging form load port most) = served_from disk name load port most
of_service disk name (Keep service judging form journal rotate port most) = beside disk name journal (to_serve port most rotate)
of_service disk name (Freeze service requests judging form load most) = frozen_from disk name load requests most
of_service disk name (Preserve service judging form journal) = beside disk name journal to_save
of_service disk name (Visit service by judging form) = visited disk by
of_service disk name _ = accepted

-- the check of the service, and then that
abbrev pub check_then : Disk → List ℕ → Judging → Option (List ℕ) → Command → Question Work
check_then disk name judging form c = accepted_file disk name judging form >>= of_service disk name c
