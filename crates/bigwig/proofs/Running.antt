-- Commands that run a service: what they ask behind the check of it, and what comes of both.
use Rattle.std.proofs.Common.{◌≡◌, ℕ, List, Option, None, Some, IfSome, refl, sym, subst}
use Rattle.bw_command.specs.declared.command.Command.{Command}
use Rattle.bw_command.specs.declared.command.Command.TheVariants.{Check, Replay, Resume, Serve, Keep, Valid, Make, Light, Freeze, Preserve, Visit}
use Rattle.bw_command.specs.declared.command.Judging.{Judging}
use Rattle.bw_command.specs.declared.status.Status.{Status}
use Rattle.bw_format.specs.declared.format.Format.{Format}
use Rattle.bw_lang.specs.declared.service.Service.{Service}
use Rattle.bw_model.specs.Sessions.{World}
use Rattle.bw_out.specs.Told.{Disk}
use Rattle.bw_questions.specs.Asked.{Ruled, Task, Work, accepted_file}
use Rattle.bw_questions.specs.Asked.Work.{prints, replays, serves, keeps, freezes, visits}
use Rattle.bw_questions.specs.Behind.{content_of}
use Rattle.bw_questions.specs.Checks.{IsRuled}
use Rattle.bw_questions.specs.Questions.{IsStop, Question}
use Rattle.bw_questions.specs.Reports.{IsReported}
use Rattle.bw_questions.specs.declared.stop.Stop.{Stop}
use Rattle.bigwig.specs.Asked.{Names, beside, check_then, of_service, work}
use Rattle.bigwig.specs.Keeping.{IsKept}
use Rattle.bigwig.specs.Outcomes.{Comes, IsDone, Replies}
use Rattle.bigwig.specs.Outcomes.Comes.{said, done, read_fault, no_memory}
use Rattle.bigwig.specs.Works.{IsServing, Outside}
use Rattle.bigwig.specs.Works.IsServing.{no_port, no_line, links_served}
use Rattle.bw_questions.proofs.Answering.{stops_first}
use Rattle.bigwig.proofs.Beside.{of_reading}
use Rattle.bigwig.proofs.Endings.{comes_then, stopped_so}
use Rattle.bigwig.proofs.Replies.{found_accepted}

-- ---- what is left of a file that was read before is of no account

serving_reading : (ruled : Ruled) (from : World) (port most : ℕ) (before after : Outside) (u : Option (List ℕ)) (s : Status)
    → IsServing ruled from port most (record before { unread = u }) after s → IsServing ruled from port most before after s
serving_reading ruled from port most before after u s (no_port e m k) = no_port e m k
serving_reading ruled from port most before after u s (no_line e a p k) = no_line e a p k
serving_reading ruled from port most before after u s (links_served e a p l) = links_served e a p l

work_reading : (work : Work) (before after : Outside) (u : Option (List ℕ)) (s : Status) → IsDone work (record before { unread = u }) after s
    → IsDone work before after s
work_reading (prints text) before after u s d = record { prints = d.prints; kept = d.kept }
work_reading (replays ruled from stream most) before after u s d =
    (record { end = d.0.end; status_is = d.0.status_is; streamed = d.0.streamed; kept = d.0.kept }, d.1)
work_reading (serves ruled from port most) before after u s d = (serving_reading ruled from port most before after u s d.0, d.1)
work_reading (keeps ruled text content task) before after u s d = of_reading ruled text content task before after u before.steps s d
work_reading (freezes ruled from text stream most) before after u s d = (
  record {
    seen = d.0.seen;
    service = d.0.service;
    end = d.0.end;
    freezes = d.0.freezes;
    streamed = d.0.streamed;
    kept = d.0.kept;
  },
  d.1,
)
work_reading (visits ruled script) before after u s d =
    (record { end = d.0.end; status_is = d.0.status_is; visited = d.0.visited; kept = d.0.kept }, d.1)

comes_reading : (question : Question Work) (before after : Outside) (u : Option (List ℕ)) (s : Status)
    → Comes question (record before { unread = u }) after s → Comes question before after s
comes_reading question before after u s (said what p i) = said what p (record { prints = i.prints; kept = i.kept })
comes_reading question before after u s (done work p d) = done work p (work_reading work before after u s d)
comes_reading question before after u s (read_fault e k) = read_fault e k
comes_reading question before after u s (no_memory e k) = no_memory e k

-- ---- the check, and then the service

-- what comes where the command names a service so
abbrev ComesBy : Disk → Command → Outside → Outside → Status → List ℕ → Judging → Option (List ℕ) → Type 0
ComesBy d c before after r s j f = Comes (check_then d s j f c) before after r

renamed : (P : List ℕ → Judging → Option (List ℕ) → Type 0) (s t : List ℕ) (j k : Judging) (f g : Option (List ℕ)) → (s ≡ t) × (j ≡ k) × (f ≡ g)
    → P s j f → P t k g
renamed P s t j k f g e h = subst (P t k) e.2 (subst (λ x. P t x f) e.1 (subst (λ x. P x j f) e.0 h))

-- a command that runs a service asks for its check first
by_check : (d : Disk) (c : Command) (s : List ℕ) (j : Judging) (f : Option (List ℕ)) (before after : Outside) (r : Status) → Names c s j f
    → Comes (check_then d s j f c) before after r → Comes (work d c) before after r
by_check d (Check service judging explain) s j f before after r n h = absurd n
by_check d (Replay service requests judging form load most) s j f before after r n h =
    renamed (ComesBy d (Replay service requests judging form load most) before after r) s service j judging f form n h
by_check d (Resume service from judging form journal most) s j f before after r n h =
    renamed (ComesBy d (Resume service from judging form journal most) before after r) s service j judging f form n h
by_check d (Serve service judging form load port most) s j f before after r n h =
    renamed (ComesBy d (Serve service judging form load port most) before after r) s service j judging f form n h
by_check d (Keep service judging form journal rotate port most) s j f before after r n h =
    renamed (ComesBy d (Keep service judging form journal rotate port most) before after r) s service j judging f form n h
by_check d (Valid page schema) s j f before after r n h = absurd n
by_check d (Make count workers) s j f before after r n h = absurd n
by_check d (Light formats texts) s j f before after r n h = absurd n
by_check d (Freeze service requests judging form load most) s j f before after r n h =
    renamed (ComesBy d (Freeze service requests judging form load most) before after r) s service j judging f form n h
by_check d (Preserve service judging form journal) s j f before after r n h =
    renamed (ComesBy d (Preserve service judging form journal) before after r) s service j judging f form n h
by_check d (Visit service by judging form) s j f before after r n h =
    renamed (ComesBy d (Visit service by judging form) before after r) s service j judging f form n h

-- What comes of this question about a service that is accepted, whose file has this text.
abbrev pub Runs : Option Disk → Service → List Format → List ℕ → (Disk → List ℕ → Ruled → Question Work) → Outside → Outside → Status → Type 0
Runs told service formats text q before after r =
    IfSome told (λ d. (ruled : Ruled) (name : List ℕ) → IsRuled service formats ruled → d name ≡ Some text → Comes (q d name ruled) before after r)

-- the service was accepted, and then it was run
pub service_runs : (told later : Option Disk) (c : Command) (s : List ℕ) (j : Judging) (f : Option (List ℕ)) (text : List ℕ) (ruled : Ruled)
    (before after : Outside) (u : Option (List ℕ)) (r : Status) → Names c s j f → later ≡ told → IfSome told (λ d. d s ≡ Some text)
    → IfSome told (λ d. (accepted_file d s j f).gives ruled)
    → Runs later ruled.service ruled.formats text (λ d name. of_service d name c) (record before { unread = u }) after r
    → IfSome told (λ d. Comes (work d c) before after r)
service_runs None later c s j f text ruled before after u r n e there g h = tt
service_runs (Some d) later c s j f text ruled before after u r n e there g h =
    let all = subst (λ o. Runs o ruled.service ruled.formats text (λ d name. of_service d name c) (record before { unread = u }) after r) e h in
    by_check d c s j f before after r n
    (comes_then (accepted_file d s j f) (of_service d s c) ruled before after r g
    (comes_reading (of_service d s c ruled) before after u r (all ruled s (found_accepted d s j f ruled g) there)))

-- or the program stopped at the check
pub service_stops : (told : Option Disk) (c : Command) (s : List ℕ) (j : Judging) (f : Option (List ℕ)) (why : Stop) (o : Outside)
    (printed unread : Option (List ℕ)) (r : Status) → Names c s j f → IfSome told (λ d. IsStop (accepted_file d s j f) why)
    → IsReported why o.printed printed r
    → IfSome told (λ d. Comes (work d c) o (record o { printed = printed; unread = unread }) r)
service_stops None c s j f why o printed unread r n stops p = tt
service_stops (Some d) c s j f why o printed unread r n stops p =
    by_check d c s j f o (record o { printed = printed; unread = unread }) r n
    (stopped_so (check_then d s j f c) why o.printed printed r (stops_first (accepted_file d s j f) (of_service d s c) why stops) p o unread)

-- ---- each command

-- what comes of the service is what the command asks for
pub same_command : (told : Option Disk) (c e : Command) (service : Service) (formats : List Format) (text : List ℕ) (before after : Outside) (r : Status)
    → c ≡ e → Runs told service formats text (λ d name. of_service d name e) before after r
    → Runs told service formats text (λ d name. of_service d name c) before after r
same_command told c e service formats text before after r same h =
    subst (λ x. Runs told service formats text (λ d name. of_service d name x) before after r) (sym same) h

-- nothing has changed but what answering on `out` changes
answered : (before after : Outside) → after.asked ≡ before.asked → after.coming ≡ before.coming → after.returned ≡ before.returned
    → after.deeds ≡ before.deeds
    → after ≡ record before { printed = after.printed; keys = after.keys; unread = after.unread; steps = after.steps }
answered before after asked coming returned deeds = λ i. record {
  printed = after.printed;
  keys = after.keys;
  asked = asked i;
  coming = coming i;
  returned = returned i;
  unread = after.unread;
  steps = after.steps;
  deeds = deeds i;
}

-- the service answered on `out`, by a file that is asked for by the text of its name
pub replies_run : (told : Option Disk) (service : Service) (formats : List Format) (text given asked : List ℕ)
    (q : Disk → List ℕ → List ℕ → Ruled → Question Work) (before after : Outside) (r : Status) → given ≡ asked → after.asked ≡ before.asked
    → after.coming ≡ before.coming → after.returned ≡ before.returned → after.deeds ≡ before.deeds
    → IfSome told (λ d. (ruled : Ruled) (name : List ℕ) → IsRuled service formats ruled → d name ≡ Some text
    → Replies (q d name given ruled) before.printed after.printed before.keys after.keys after.unread before.steps after.steps r)
    → Runs told service formats text (λ d name. q d name asked) before after r
replies_run None service formats text given asked q before after r same a c t m h = tt
replies_run (Some d) service formats text given asked q before after r same a c t m h = λ ruled name is there.
    subst (λ x. Comes (q d name asked ruled) before x r) (sym (answered before after a c t m))
    (subst (λ n. Replies (q d name n ruled) before.printed after.printed before.keys after.keys after.unread before.steps after.steps r) same
    (h ruled name is there) before)

-- its port was served
pub port_runs : (told : Option Disk) (service : Service) (formats : List Format) (text : List ℕ) (q : Disk → List ℕ → Ruled → Question Work)
    (before after : Outside) (r : Status)
    → IfSome told (λ d. (ruled : Ruled) (name : List ℕ) (u v : Option (List ℕ)) → IsRuled service formats ruled → d name ≡ Some text
    → Comes (q d name ruled) (record before { unread = u }) (record after { unread = v }) r)
    → Runs told service formats text q before after r
port_runs None service formats text q before after r h = tt
port_runs (Some d) service formats text q before after r h = λ ruled name is there. h ruled name before.unread after.unread is there

-- a task was done beside a journal, which is asked for by the text of its name
pub task_runs : (told : Option Disk) (service : Service) (formats : List Format) (text given journal : List ℕ) (task : Task) (P : Task → Type 0)
    (before after : Outside) (r : Status) → given ≡ journal → P task
    → IfSome told (λ d. (ruled : Ruled) (x : Task) → IsRuled service formats ruled → P x → IsKept ruled text (content_of (d given)) x before after r)
    → Runs told service formats text (λ d name. beside d name journal task) before after r
task_runs None service formats text given journal task P before after r same is h = tt
task_runs (Some d) service formats text given journal task P before after r same is h = λ ruled name by there.
    done (keeps ruled text (content_of (d journal)) task) (text, there, refl)
    (subst (λ n. IsKept ruled text (content_of (d n)) task before after r) same (h ruled task by is))
