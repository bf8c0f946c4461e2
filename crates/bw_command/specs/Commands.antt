-- The commands that the words of the command line give.
use Rattle.std.specs.Prelude.{◌≤◌, ⊤, ℕ, Bool, false, not, ◌&&◌, ◌||◌, is_none, List, [], ◌∷◌, Option, None, Some, bytes_eq, codes, if◌then◌else◌}
use Rattle.clap.specs.Kinds.{Kinds}
use Rattle.clap.specs.Words.{fault_of}
use Rattle.bw_command.specs.Numbers.{number_if, number_in, number_or}
use Rattle.bw_command.specs.Words.{Written, bigwig, written_by}
use Rattle.bw_command.specs.declared.command.Command.{Command}
use Rattle.bw_command.specs.declared.command.Command.TheVariants.{Check, Replay, Resume, Serve, Keep, Valid, Make, Light, Freeze, Preserve, Visit}
use Rattle.bw_command.specs.declared.command.Judging.{Judging}
use Rattle.bw_command.specs.declared.command.TheConstants.{DEFAULT_PORT, MAX_LINKS, MAX_PORT, MAX_REQUESTS, MAX_ROTATE, MAX_WORKERS}
use Rattle.bw_make.specs.declared.TheConstants.{MAX_PAGES}

-- a flag is written
abbrev pub is_written : Option (List ℕ) → Bool
is_written None = false
is_written (Some t) = bytes_eq t (codes "true")

-- what a service is judged by: the schema that is named, if one is, and by how many workers; and whether its source is
-- shown where it is refused
abbrev pub judging_of : Option (List ℕ) → Option ℕ → Bool → Option Judging
judging_of schema (Some workers) source = Some (record { schema = schema; workers = workers; source = source })
judging_of schema None source = None

abbrev pub judging_by : Written → Option Judging
judging_by w = judging_of w.schema (number_or 1 MAX_WORKERS 1 w.workers) (is_written w.source)

-- no option is there but the schema, the workers and the flag
abbrev pub has_judging_alone : Written → Bool
has_judging_alone w = is_none w.limit && (is_none w.port && (is_none w.formats && (is_none w.journal && (is_none w.load && is_none w.rotate))))

-- check SERVICE, with a page that shows its first fault of an element or without
abbrev pub check_of : Option (List ℕ) → Option (List ℕ) → Option Judging → Bool → Option Command
check_of (Some service) None (Some judging) explain = Some (Check service judging explain)
check_of service second judging explain = None

abbrev pub check_by : Written → Option Command
check_by w = if has_judging_alone w then check_of w.first w.second (judging_by w) (is_written w.explain) else None

-- no file of saved sessions is named beside a journal: a journal begins where nothing was requested yet
abbrev pub begins_once : Written → Bool
begins_once w = is_none w.journal || is_none w.load

-- the command that answers requests, beside a journal where one is named
abbrev pub replaying : List ℕ → List ℕ → Judging → Option (List ℕ) → Option (List ℕ) → Option (List ℕ) → ℕ → Command
replaying service requests judging formats None load most = Replay service requests judging formats load most
replaying service requests judging formats (Some journal) load most = Resume service requests judging formats journal most

-- replay SERVICE REQUESTS, with the formats, beside the journal and from the saved sessions that are named, if they are
abbrev pub replay_of : Option (List ℕ) → Option (List ℕ) → Option Judging → Option (List ℕ) → Option (List ℕ) → Option (List ℕ) → Option ℕ → Option Command
replay_of (Some service) (Some requests) (Some judging) formats journal load (Some most) = Some (replaying service requests judging formats journal load most)
replay_of service requests judging formats journal load most = None

abbrev pub replay_by : Written → Option Command
replay_by w =
    if is_none w.port && (is_none w.rotate && begins_once w)
    then replay_of w.first w.second (judging_by w) w.formats w.journal w.load (number_or 1 MAX_REQUESTS MAX_REQUESTS w.limit) else None

-- where it is said when a journal is begun anew, one is named
abbrev pub rotates_one : Written → Bool
rotates_one w = is_none w.rotate || not (is_none w.journal)

-- the command that serves a service, beside a journal where one is named
abbrev pub serving : List ℕ → Judging → Option (List ℕ) → Option (List ℕ) → Option (List ℕ) → Option ℕ → ℕ → ℕ → Command
serving service judging formats None load rotate port most = Serve service judging formats load port most
serving service judging formats (Some journal) load rotate port most = Keep service judging formats journal rotate port most

-- serve SERVICE, with the formats, beside the journal and from the saved sessions that are named, if they are
abbrev pub serve_of : Option (List ℕ) → Option (List ℕ) → Option Judging → Option (List ℕ) → Option (List ℕ) → Option (List ℕ) → Option (Option ℕ)
    → Option ℕ → Option ℕ → Option Command
serve_of (Some service) None (Some judging) formats journal load (Some rotate) (Some port) (Some most) =
    Some (serving service judging formats journal load rotate port most)
serve_of service second judging formats journal load rotate port most = None

abbrev pub serve_by : Written → Option Command
serve_by w =
    if begins_once w && rotates_one w
    then serve_of w.first w.second (judging_by w) w.formats w.journal w.load (number_if 1 MAX_ROTATE w.rotate)
    (number_or 1 MAX_PORT DEFAULT_PORT w.port) (number_or 1 MAX_LINKS MAX_LINKS w.limit)
    else None

-- freeze SERVICE REQUESTS, with the formats and from the saved sessions that are named, if they are
abbrev pub freeze_of : Option (List ℕ) → Option (List ℕ) → Option Judging → Option (List ℕ) → Option (List ℕ) → Option ℕ → Option Command
freeze_of (Some service) (Some requests) (Some judging) formats load (Some most) = Some (Freeze service requests judging formats load most)
freeze_of service requests judging formats load most = None

abbrev pub requests_by : Written → Option Command
requests_by w = freeze_of w.first w.second (judging_by w) w.formats w.load (number_or 1 MAX_REQUESTS MAX_REQUESTS w.limit)

-- freeze SERVICE, where a journal is named: what waits in the world that it brings about is saved
abbrev pub preserve_of : Option (List ℕ) → Option (List ℕ) → Option Judging → Option (List ℕ) → List ℕ → Option Command
preserve_of (Some service) None (Some judging) formats journal = Some (Preserve service judging formats journal)
preserve_of service second judging formats journal = None

abbrev pub preserve_by : Written → List ℕ → Option Command
preserve_by w journal =
    if is_none w.limit && is_none w.load then preserve_of w.first w.second (judging_by w) w.formats journal else None

-- one of both, by the journal that is named, if one is
abbrev pub freezing_by : Written → Option (List ℕ) → Option Command
freezing_by w None = requests_by w
freezing_by w (Some journal) = preserve_by w journal

abbrev pub freeze_by : Written → Option Command
freeze_by w = if is_none w.port && is_none w.rotate then freezing_by w w.journal else None

-- no option is there but the schema
abbrev pub has_schema_alone : Written → Bool
has_schema_alone w =
    is_none w.workers
    && (is_none w.limit
    && (is_none w.port && (is_none w.formats && (is_none w.journal && (is_none w.load && (is_none w.rotate && not (is_written w.source)))))))

-- valid PAGE
abbrev pub valid_of : Option (List ℕ) → Option (List ℕ) → Option (List ℕ) → Option Command
valid_of (Some page) None schema = Some (Valid page schema)
valid_of page second schema = None

abbrev pub valid_by : Written → Option Command
valid_by w = if has_schema_alone w then valid_of w.first w.second w.schema else None

-- no option is there but the workers
abbrev pub has_workers_alone : Written → Bool
has_workers_alone w =
    is_none w.schema
    && (is_none w.limit
    && (is_none w.port && (is_none w.formats && (is_none w.journal && (is_none w.load && (is_none w.rotate && not (is_written w.source)))))))

-- make N
abbrev pub make_of : Option ℕ → Option (List ℕ) → Option ℕ → Option Command
make_of (Some count) None (Some workers) = Some (Make count workers)
make_of count second workers = None

-- the number that the word is, if it is there
abbrev pub count_of : Option (List ℕ) → Option ℕ
count_of None = None
count_of (Some t) = number_in 1 MAX_PAGES t

abbrev pub make_by : Written → Option Command
make_by w = if has_workers_alone w then make_of (count_of w.first) w.second (number_or 1 MAX_WORKERS 1 w.workers) else None

-- no option is there
abbrev pub has_no_option : Written → Bool
has_no_option w =
    is_none w.schema
    && (is_none w.workers
    && (is_none w.limit
    && (is_none w.port && (is_none w.formats && (is_none w.journal && (is_none w.load && (is_none w.rotate && not (is_written w.source))))))))

-- light FORMATS TEXTS
abbrev pub light_of : Option (List ℕ) → Option (List ℕ) → Option Command
light_of (Some formats) (Some texts) = Some (Light formats texts)
light_of formats texts = None

abbrev pub light_by : Written → Option Command
light_by w = if has_no_option w then light_of w.first w.second else None

-- no option is there but the schema, the workers, the formats and the flag
abbrev pub has_visiting_alone : Written → Bool
has_visiting_alone w = is_none w.limit && (is_none w.port && (is_none w.journal && (is_none w.load && is_none w.rotate)))

-- visit SERVICE SCRIPT, with the formats that are named, if they are
abbrev pub visit_of : Option (List ℕ) → Option (List ℕ) → Option Judging → Option (List ℕ) → Option Command
visit_of (Some service) (Some script) (Some judging) formats = Some (Visit service script judging formats)
visit_of service script judging formats = None

abbrev pub visit_by : Written → Option Command
visit_by w = if has_visiting_alone w then visit_of w.first w.second (judging_by w) w.formats else None

-- the command of this name, which isn't `check`
abbrev pub other_by : List ℕ → Written → Option Command
other_by name w =
    if bytes_eq name (codes "replay") then replay_by w
    else (if bytes_eq name (codes "serve") then serve_by w
    else (if bytes_eq name (codes "valid") then valid_by w
    else (if bytes_eq name (codes "make") then make_by w
    else (if bytes_eq name (codes "light") then light_by w
    else (if bytes_eq name (codes "freeze") then freeze_by w
    else (if bytes_eq name (codes "visit") then visit_by w else None))))))

-- the command of this name: a page that shows a fault is asked for by `check` alone
abbrev pub named_by : Option (List ℕ) → Written → Option Command
named_by None w = None
named_by (Some name) w =
    if bytes_eq name (codes "check") then check_by w else (if is_written w.explain then None else other_by name w)

-- the command that is written so
abbrev pub command_by : Written → Option Command
command_by w = named_by w.command w

-- that command, unless clap found fault with the words
abbrev pub unless_fault : Kinds → Option Command → Option Command
unless_fault [] command = command
unless_fault (kind ∷ kinds) command = None

-- the command that the words give, and None where they are refused
unfoldable pub command_of : List (List ℕ) → Option Command
command_of words = unless_fault (fault_of bigwig words) (command_by (written_by words))

-- ---- ranges

-- from 1 to 16 workers
abbrev pub AreWorkers : ℕ → Type 0
AreWorkers n = (1 ≤ n) × (n ≤ MAX_WORKERS)

-- the command's numbers are within their ranges
abbrev pub IsInRange : Command → Type 0
IsInRange (Check service judging explain) = AreWorkers judging.workers
IsInRange (Replay service requests judging formats load most) = AreWorkers judging.workers
IsInRange (Resume service requests judging formats journal most) = AreWorkers judging.workers
IsInRange (Serve service judging formats load port most) = AreWorkers judging.workers
IsInRange (Keep service judging formats journal rotate port most) = AreWorkers judging.workers
IsInRange (Valid page schema) = ⊤
IsInRange (Make count workers) = (1 ≤ count) × (count ≤ MAX_PAGES) × AreWorkers workers
IsInRange (Light formats texts) = ⊤
IsInRange (Freeze service requests judging formats load most) = AreWorkers judging.workers
IsInRange (Preserve service judging formats journal) = AreWorkers judging.workers
IsInRange (Visit service script judging formats) = AreWorkers judging.workers
