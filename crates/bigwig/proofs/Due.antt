-- Some status is due, and one only.
use Rattle.std.proofs.Common.{◌≡◌, ◌⊎◌, ℕ, zero, suc, Bool, true, false, List, [], Option, Some, codes, refl, sym, ◌∙◌, ap, subst, inl, inr}
use Rattle.bw_check.specs.Accepts.{Accepts}
use Rattle.bw_out.specs.Told.{Disk}
use Rattle.bw_keeping.specs.declared.ended.StreamEnded.{StreamEnded}
use Rattle.bw_keeping.specs.declared.ended.StreamEnded.TheVariants as streamed
use Rattle.bw_model.specs.Sessions.{World}
use Rattle.bw_questions.specs.Asked.{Ruled, Task, Work}
use Rattle.bigwig.specs.Asked.{asked, work}
use Rattle.bw_questions.specs.Asked.Task.{to_answer, to_save, to_serve}
use Rattle.bw_questions.specs.Asked.Work.{prints, replays, serves, keeps, freezes, visits}
use Rattle.bw_world.specs.Seen.{Seen}
use Rattle.bigwig.specs.Freezing.{FreezesAt, IsFrozen}
use Rattle.bigwig.specs.Freezing.IsFrozen.{saved, too_long, no_memory as no_room}
use Rattle.bigwig.specs.Keeping.{AnswersEndWith, EndsWith, Follows, IsKept, Keeps, sum_behind}
use Rattle.bigwig.specs.Keeping.IsKept.{stopped, refused, failed, half_begun, begun, renewed, preserved}
use Rattle.bigwig.specs.Keeping.Keeps.{no_port as keep_no_port, no_line as keep_no_line, links_served as keep_links_served}
use Rattle.bw_keeping.specs.declared.ended.Ended.{Ended}
use Rattle.bw_keeping.specs.declared.ended.Ended.TheVariants as ended
use Rattle.bw_command.specs.Commands.{command_of}
use Rattle.bigwig.specs.Laws.{IsAcceptedFile, CheckIsDone, IsValidFile, ValidIsDone, Due, IsFree}
use Rattle.bigwig.specs.Laws.{SomeStatusIsDue, OneStatusIsDue, ComesWhereDue, DoesItsWork, ServesLinks, DoorFaultsServe, JournalsAreKept, IsUnanswered}
use Rattle.bigwig.specs.Laws.ServesLinks.{alone, kept}
use Rattle.bw_world.specs.declared.ends.StreamEnd.{StreamEnd}
use Rattle.bw_world.specs.declared.ends.StreamEnd.TheVariants as ends
use Rattle.bigwig.specs.Outcomes.{IsDone}
use Rattle.bigwig.specs.Works.{Outside, IsSaid, IsServing, status_of}
use Rattle.bigwig.specs.Outcomes.Comes.{said, done, read_fault, no_memory}
use Rattle.bigwig.specs.Works.IsServing.{no_port, no_line, links_served}
use Rattle.bw_questions.specs.Questions.{Said, line}
use Rattle.bw_command.specs.declared.command.Command.{Command}
use Rattle.bw_command.specs.declared.command.Command.TheVariants.{Check, Valid}
use Rattle.bw_command.specs.declared.command.Judging.{Judging}
use Rattle.bw_command.specs.declared.status.Status.{Status}
use Rattle.bw_command.specs.declared.status.Status.TheVariants.{Done, ReadFault, WriteFault, DoorFault, Memory, SaveRefused, JournalRefused, JournalFault, ScriptRefused}
use Rattle.bigwig.proofs.Decided.{asked_decided}
use Rattle.bigwig.proofs.Refusals.{never_said}
use Rattle.bigwig.proofs.SomeAnswer.{asked_some}
use Rattle.bigwig.proofs.TooMuch.{IsNone, freezes_not, frozen_not}
use Rattle.bigwig.proofs.VisitEnds.{IsEnd, IsUnknown, no_visit, visit_end, visit_no_door, visit_status}

pub some_status : SomeStatusIsDue
some_status words disk verdicts why = elim (asked_some words disk verdicts why) as (λ _. (status : Status) × Due words disk status) [
  | inl x ↦ (Done, inr (x.0, x.1, refl))
  | inr x ↦ (x.0.status, inl (x.0, x.1, refl))
]

pub one_status : OneStatusIsDue
one_status words disk s t (inl p) (inl q) = p.2 ∙ (asked_decided words disk).one_status p.0 q.0 p.1 q.1 ∙ sym q.2
one_status words disk s t (inl p) (inr q) = absurd ((asked_decided words disk).not_both q.0 p.0 q.1 p.1)
one_status words disk s t (inr p) (inl q) = absurd ((asked_decided words disk).not_both p.0 q.0 p.1 q.1)
one_status words disk s t (inr p) (inr q) = p.2 ∙ sym q.2

-- what was said has its status, or is a write fault
said_or_fault : (x : Said) (before after : Outside) (status : Status) → IsSaid x before after status → (status ≡ x.status) ⊎ IsFree status
said_or_fault x before after status i = elim i.prints [ inl p ↦ inl p.0 | inr p ↦ inr (inr (inl p.0)) ]

ended_or_fault : (end : StreamEnd) → (status_of end ≡ Done) ⊎ IsFree (status_of end)
ended_or_fault (ends.Ended n) = inl refl
ended_or_fault ends.ReadFault = inr (inl refl)
ended_or_fault ends.WriteFault = inr (inr (inl refl))

serving_or_fault : (ruled : Ruled) (from : World) (port most : ℕ) (before after : Outside) (status : Status)
    → IsServing ruled from port most before after status → (status ≡ Done) ⊎ IsFree status
serving_or_fault ruled from port most before after status (no_port e m k) = inr (inr (inr (inl e)))
serving_or_fault ruled from port most before after status (no_line e a p k) = inr (inr (inl e))
serving_or_fault ruled from port most before after status (links_served (inl e) a p l) = inl e
serving_or_fault ruled from port most before after status (links_served (inr e) a p l) = inr (inr (inr (inl e)))

-- what waits was printed; or it was too much, or the lines couldn't be written; or there was no memory
frozen_or_fault : (text : List ℕ) (seen : Seen) (held now : Option (List ℕ)) (status : Status) → IsFrozen text seen held now status
    → (status ≡ Done) ⊎ IsFree status
frozen_or_fault text seen held now status (saved fits (inl p)) = inl p.0
frozen_or_fault text seen held now status (saved fits (inr p)) = inr (inr (inl p.0))
frozen_or_fault text seen held now status (too_long filled more (inl p)) = inr (inr (inr (inr (inr (inr (inr p.0))))))
frozen_or_fault text seen held now status (too_long filled more (inr p)) = inr (inr (inl p.0))
frozen_or_fault text seen held now status (no_room e k) = inr (inr (inr (inr (inl e))))

freezes_or_fault : (text : List ℕ) (seen : Seen) (end : StreamEnd) (held now : Option (List ℕ)) (status : Status)
    → FreezesAt text seen end held now status → (status ≡ Done) ⊎ IsFree status
freezes_or_fault text seen (ends.Ended zero) held now status f = frozen_or_fault text seen held now status f
freezes_or_fault text seen (ends.Ended (suc n)) held now status f = inr (inr (inr (inr (inl f.0))))
freezes_or_fault text seen ends.ReadFault held now status f = inr (inl f.0)
freezes_or_fault text seen ends.WriteFault held now status f = absurd f

-- the journal was refused, or it failed, or the line that says so couldn't be written
journal_said : (x : Said) (before after : Outside) (status : Status) → IsSaid x before after status → (x.status ≡ JournalRefused) ⊎ (x.status ≡ JournalFault)
    → IsFree status
journal_said x before after status i (inl e) = elim i.prints [
  | inl p ↦ inr (inr (inr (inr (inr (inl (p.0 ∙ e))))))
  | inr p ↦ inr (inl p.0)
]
journal_said x before after status i (inr e) = elim i.prints [
  | inl p ↦ inr (inr (inr (inr (inl (p.0 ∙ e)))))
  | inr p ↦ inr (inl p.0)
]

kept_end : (held now : Option (List ℕ)) (end : Ended) (status : Status) → EndsWith held now end status → (status ≡ Done) ⊎ IsFree status
kept_end held now ended.Done status e = inl e.0
kept_end held now ended.DoorFault status e = inr (inr (inr (inl e.0)))
kept_end held now ended.JournalFault status (inl e) = inr (inr (inr (inr (inr (inl e.0)))))
kept_end held now ended.JournalFault status (inr e) = inr (inr (inl e.0))

resumed_end : (held now : Option (List ℕ)) (end : StreamEnded) (status : Status) → AnswersEndWith held now end status → (status ≡ Done) ⊎ IsFree status
resumed_end held now (streamed.Ended n) status e = inl e.0
resumed_end held now streamed.ReadFault status e = inr (inl e.0)
resumed_end held now streamed.WriteFault status e = inr (inr (inl e.0))
resumed_end held now streamed.JournalFault status (inl e) = inr (inr (inr (inr (inr (inl e.0)))))
resumed_end held now streamed.JournalFault status (inr e) = inr (inr (inl e.0))

links_end : (ruled : Ruled) (world : World) (port most sum : ℕ) (before after : Outside) (status : Status)
    → Keeps ruled world port most sum before after status → (status ≡ Done) ⊎ IsFree status
links_end ruled world port most sum before after status (keep_no_port e m l) = inr (inr (inr (inl e)))
links_end ruled world port most sum before after status (keep_no_line e a p l) = inr (inr (inl e))
links_end ruled world port most sum before after status (keep_links_served printed end a p e s) = kept_end printed after.printed end status e

task_end : (ruled : Ruled) (task : Task) (world : World) (sum : ℕ) (before after : Outside) (status : Status)
    → Follows ruled task world sum before after status → (status ≡ Done) ⊎ IsFree status
task_end ruled (to_serve port most rotate) world sum before after status k = links_end ruled world port most sum before after status k
task_end ruled (to_answer stream most) world sum before after status r = resumed_end r.printed after.printed r.end status r.ends
task_end ruled to_save world sum before after status r = absurd r

kept_or_fault : (ruled : Ruled) (text content : List ℕ) (task : Task) (before after : Outside) (status : Status)
    → IsKept ruled text content task before after status → (status ≡ Done) ⊎ IsFree status
kept_or_fault ruled text content task before after status (stopped (inl e) k u) = inr (inl e)
kept_or_fault ruled text content task before after status (stopped (inr e) k u) = inr (inr (inr (inr (inl e))))
kept_or_fault ruled text content task before after status (refused why r i u) = inr (journal_said _ _ after status i (inl refl))
kept_or_fault ruled text content task before after status (failed n i u) = inr (journal_said _ _ after status i (inr refl))
kept_or_fault ruled text content task before after status (half_begun n all w f i) = inr (journal_said _ _ after status i (inr refl))
kept_or_fault ruled text content task before after status (begun f w mid h l k o follows) =
    task_end ruled task w (sum_behind text f) mid after status follows
kept_or_fault ruled text content task before after status (renewed len sum w seen mid h l b k o follows) =
    task_end ruled task w _ mid after status follows
kept_or_fault ruled text content task before after status (preserved f w seen is h e st fr k u) =
    frozen_or_fault text seen before.printed after.printed status fr

-- the work ends with Done, unless there was a fault, or a visit ended at an answer without a control
pub done_or_fault : (work : Work) (before after : Outside) (status : Status) → IsDone work before after status → IsEnd work status
done_or_fault (prints text) before after status d = no_visit _ status (said_or_fault _ before after status d)
done_or_fault (replays ruled from stream most) before after status d =
    no_visit _ status (subst (λ s. (s ≡ Done) ⊎ IsFree s) (sym d.0.status_is) (ended_or_fault d.0.end))
done_or_fault (serves ruled from port most) before after status d = no_visit _ status (serving_or_fault ruled from port most before after status d.0)
done_or_fault (keeps ruled text content task) before after status d =
    no_visit _ status (kept_or_fault ruled text content task before after status d)
done_or_fault (freezes ruled from text stream most) before after status d =
    no_visit _ status (freezes_or_fault text d.0.seen d.0.end before.printed after.printed status d.0.freezes)
done_or_fault (visits ruled script) before after status d = visit_end ruled script d.0.end status d.0.status_is

or_fault : (s t u : Status) (P : Type 0) → (u ≡ t) ⊎ IsFree u → t ≡ s → (u ≡ s) ⊎ (IsFree u ⊎ P)
or_fault s t u P (inl x) e = inl (x ∙ e)
or_fault s t u P (inr x) e = inr (inl x)

-- the work that was asked for is a visit
pub unanswered : (words : List (List ℕ)) (disk : Disk) (work : Work) (status : Status) → (asked words disk).gives work → IsUnknown work status
    → IsUnanswered words disk status
unanswered words disk work status g u = (u.0, u.1, u.2, subst (λ w. (asked words disk).gives w) u.3 g)

work_where_due : (words : List (List ℕ)) (disk : Disk) (work : Work) (s t : Status) → (asked words disk).gives work → Due words disk s → IsEnd work t
    → (t ≡ s) ⊎ (IsFree t ⊎ IsUnanswered words disk t)
work_where_due words disk work s t g d (inl e) = inl (e ∙ one_status words disk Done s (inr (work, g, refl)) d)
work_where_due words disk work s t g d (inr (inl f)) = inr (inl f)
work_where_due words disk work s t g d (inr (inr u)) = inr (inr (unanswered words disk work t g u))

pub comes_where_due : ComesWhereDue
comes_where_due words disk before after s t d (said x p i) =
    or_fault s x.status t _ (said_or_fault x before after t i) (one_status words disk x.status s (inl (x, p, refl)) d)
comes_where_due words disk before after s t d (done w p i) = work_where_due words disk w s t p d (done_or_fault w before after t i)
comes_where_due words disk before after s t d (read_fault e k) = inr (inl (inl e))
comes_where_due words disk before after s t d (no_memory e k) = inr (inl (inr (inr (inr (inl e)))))

work_done : (words : List (List ℕ)) (disk : Disk) (work : Work) (before after : Outside) (status : Status) → (asked words disk).gives work
    → IsDone work before after status → IsEnd work status
    → ((status ≡ Done) × IsDone work before after status) ⊎ (IsFree status ⊎ (IsUnanswered words disk status × IsDone work before after status))
work_done words disk work before after status g so (inl e) = inl (e, so)
work_done words disk work before after status g so (inr (inl f)) = inr (inl f)
work_done words disk work before after status g so (inr (inr u)) = inr (inr (unanswered words disk work status g u, so))

pub does_its_work : DoesItsWork
does_its_work words disk work before after status g (said x p i) = absurd ((asked_decided words disk).not_both work x g p)
does_its_work words disk work before after status g (done w p d) =
    let same : w ≡ work = (asked_decided words disk).once w work p g in
    let so : IsDone work before after status = subst (λ x. IsDone x before after status) same d in
    work_done words disk work before after status g so (done_or_fault work before after status so)
does_its_work words disk work before after status g (read_fault e k) = inr (inl (inl e))
does_its_work words disk work before after status g (no_memory e k) = inr (inl (inr (inr (inr (inl e)))))

-- ---- door faults

no_door_fault : (status : Status) → DoorFault ≡ status → (status ≡ Done) ⊎ ((status ≡ ReadFault) ⊎ ((status ≡ WriteFault) ⊎ (status ≡ Memory))) → ⊥
no_door_fault status e (inl f) = let g : DoorFault ≡ Done = e ∙ f in cc
no_door_fault status e (inr (inl f)) = let g : DoorFault ≡ ReadFault = e ∙ f in cc
no_door_fault status e (inr (inr (inl f))) = let g : DoorFault ≡ WriteFault = e ∙ f in cc
no_door_fault status e (inr (inr (inr f))) = let g : DoorFault ≡ Memory = e ∙ f in cc

stream_status : (end : StreamEnd) → (status_of end ≡ Done) ⊎ ((status_of end ≡ ReadFault) ⊎ ((status_of end ≡ WriteFault) ⊎ (status_of end ≡ Memory)))
stream_status (ends.Ended n) = inl refl
stream_status ends.ReadFault = inr (inl refl)
stream_status ends.WriteFault = inr (inr (inl refl))

-- requests that are answered beside a journal have no door
requests_status : (held now : Option (List ℕ)) (end : StreamEnded) (status : Status) → AnswersEndWith held now end status → DoorFault ≡ status → ⊥
requests_status held now (streamed.Ended n) status e f = no_door_fault status f (inl e.0)
requests_status held now streamed.ReadFault status e f = no_door_fault status f (inr (inl e.0))
requests_status held now streamed.WriteFault status e f = no_door_fault status f (inr (inr (inl e.0)))
requests_status held now streamed.JournalFault status (inl e) f = let g : DoorFault ≡ JournalFault = f ∙ e.0 in cc
requests_status held now streamed.JournalFault status (inr e) f = no_door_fault status f (inr (inr (inl e.0)))

journal_is_no_door : (x : Said) (before after : Outside) → IsSaid x before after DoorFault → (x.status ≡ JournalRefused) ⊎ (x.status ≡ JournalFault) → ⊥
journal_is_no_door x before after i (inl e) = elim i.prints [
  | inl p ↦ let g : DoorFault ≡ JournalRefused = p.0 ∙ e in cc
  | inr p ↦ no_door_fault WriteFault p.0 (inr (inr (inl refl)))
]
journal_is_no_door x before after i (inr e) = elim i.prints [
  | inl p ↦ let g : DoorFault ≡ JournalFault = p.0 ∙ e in cc
  | inr p ↦ no_door_fault WriteFault p.0 (inr (inr (inl refl)))
]

abbrev is_of_door : Status → Bool
is_of_door DoorFault = true
is_of_door status = false

none_of_door : IsNone is_of_door
none_of_door = record { at_done = refl; at_read = refl; at_write = refl; at_memory = refl; at_save = refl }

kept_links : (ruled : Ruled) (text content : List ℕ) (task : Task) (before after : Outside) → IsKept ruled text content task before after DoorFault
    → ServesLinks (keeps ruled text content task)
kept_links ruled text content (to_serve port most rotate) before after d = kept ruled text content port most rotate
kept_links ruled text content (to_answer stream most) before after (stopped (inl e) k u) = absurd (no_door_fault ReadFault e (inr (inl refl)))
kept_links ruled text content (to_answer stream most) before after (stopped (inr e) k u) = absurd (no_door_fault Memory e (inr (inr (inr refl))))
kept_links ruled text content (to_answer stream most) before after (refused why r i u) = absurd (journal_is_no_door _ _ after i (inl refl))
kept_links ruled text content (to_answer stream most) before after (failed n i u) = absurd (journal_is_no_door _ _ after i (inr refl))
kept_links ruled text content (to_answer stream most) before after (half_begun n all w f i) = absurd (journal_is_no_door _ _ after i (inr refl))
kept_links ruled text content (to_answer stream most) before after (begun f w mid h l k o r) =
    absurd (requests_status r.printed after.printed r.end DoorFault r.ends refl)
kept_links ruled text content (to_answer stream most) before after (renewed len sum w seen mid h l b k o r) = absurd l
kept_links ruled text content (to_answer stream most) before after (preserved f w seen is h e st fr k u) =
    absurd (frozen_not is_of_door text seen before.printed after.printed DoorFault fr none_of_door refl)
kept_links ruled text content to_save before after (stopped (inl e) k u) = absurd (no_door_fault ReadFault e (inr (inl refl)))
kept_links ruled text content to_save before after (stopped (inr e) k u) = absurd (no_door_fault Memory e (inr (inr (inr refl))))
kept_links ruled text content to_save before after (refused why r i u) = absurd (journal_is_no_door _ _ after i (inl refl))
kept_links ruled text content to_save before after (failed n i u) = absurd (n refl)
kept_links ruled text content to_save before after (half_begun n all w f i) = absurd (n refl)
kept_links ruled text content to_save before after (begun f w mid h l k o r) = absurd r
kept_links ruled text content to_save before after (renewed len sum w seen mid h l b k o r) = absurd r
kept_links ruled text content to_save before after (preserved f w seen is h e st fr k u) =
    absurd (frozen_not is_of_door text seen before.printed after.printed DoorFault fr none_of_door refl)

served_work : (work : Work) (before after : Outside) → IsDone work before after DoorFault → ServesLinks work
served_work (prints text) before after d = absurd (elim d.prints
    [ inl x ↦ no_door_fault Done x.0 (inl refl) | inr x ↦ no_door_fault WriteFault x.0 (inr (inr (inl refl))) ])
served_work (replays ruled from stream most) before after d = absurd (no_door_fault (status_of d.0.end) d.0.status_is (stream_status d.0.end))
served_work (serves ruled from port most) before after d = alone ruled from port most
served_work (keeps ruled text content task) before after d = kept_links ruled text content task before after d
served_work (freezes ruled from text stream most) before after d =
    absurd (freezes_not is_of_door text d.0.seen d.0.end before.printed after.printed DoorFault d.0.freezes none_of_door refl)
served_work (visits ruled script) before after d = absurd (visit_no_door d.0.end DoorFault d.0.status_is refl)

pub door_faults_serve : DoorFaultsServe
door_faults_serve words disk before after (said s p i) =
    absurd (elim i.prints [ inl x ↦ never_said words disk s DoorFault refl p x.0 | inr x ↦ no_door_fault WriteFault x.0 (inr (inr (inl refl))) ])
door_faults_serve words disk before after (done w p d) =
    (w, p, served_work w before after d)
door_faults_serve words disk before after (read_fault e k) = absurd (no_door_fault ReadFault e (inr (inl refl)))
door_faults_serve words disk before after (no_memory e k) = absurd (no_door_fault Memory e (inr (inr (inr refl))))

-- ---- journals

abbrev is_of_journal : Status → Bool
is_of_journal JournalRefused = true
is_of_journal JournalFault = true
is_of_journal status = false

not_so : (b : Bool) → b ≡ false → b ≡ true → ⊥
not_so b is isnt = cc

abbrev IsJournals : Status → Type 0
IsJournals status = (status ≡ JournalRefused) ⊎ (status ≡ JournalFault)

not_journals : (s t : Status) → IsJournals s → s ≡ t → is_of_journal t ≡ false → ⊥
not_journals s t (inl e) same other = not_so (is_of_journal t) other (ap is_of_journal (sym same ∙ e))
not_journals s t (inr e) same other = not_so (is_of_journal t) other (ap is_of_journal (sym same ∙ e))

served_status : (ruled : Ruled) (from : World) (port most : ℕ) (before after : Outside) (s : Status) → IsServing ruled from port most before after s
    → IsJournals s → ⊥
served_status ruled from port most before after s (no_port e m k) j = not_journals s DoorFault j e refl
served_status ruled from port most before after s (no_line e a p k) j = not_journals s WriteFault j e refl
served_status ruled from port most before after s (links_served (inl e) a p l) j = not_journals s Done j e refl
served_status ruled from port most before after s (links_served (inr e) a p l) j = not_journals s DoorFault j e refl

none_of_journal : IsNone is_of_journal
none_of_journal = record { at_done = refl; at_read = refl; at_write = refl; at_memory = refl; at_save = refl }

is_journals : (s : Status) → IsJournals s → is_of_journal s ≡ true
is_journals s (inl e) = ap is_of_journal e
is_journals s (inr e) = ap is_of_journal e

stream_is_none : (end : StreamEnd) → is_of_journal (status_of end) ≡ false
stream_is_none (ends.Ended n) = refl
stream_is_none ends.ReadFault = refl
stream_is_none ends.WriteFault = refl

visit_is_none : (s : Status) → (s ≡ Done) ⊎ ((s ≡ ScriptRefused) ⊎ ((s ≡ WriteFault) ⊎ (s ≡ Memory))) → IsJournals s → ⊥
visit_is_none s (inl e) j = not_journals s Done j e refl
visit_is_none s (inr (inl e)) j = not_journals s ScriptRefused j e refl
visit_is_none s (inr (inr (inl e))) j = not_journals s WriteFault j e refl
visit_is_none s (inr (inr (inr e))) j = not_journals s Memory j e refl

kept_work : (work : Work) (before after : Outside) (s : Status) → IsDone work before after s → IsJournals s
    → (ruled : Ruled) × (text : List ℕ) × (content : List ℕ) × (task : Task) × (work ≡ keeps ruled text content task)
kept_work (prints text) before after s d j = absurd (elim d.prints
    [ inl x ↦ not_journals s Done j x.0 refl | inr x ↦ not_journals s WriteFault j x.0 refl ])
kept_work (replays ruled from stream most) before after s d j = absurd (not_journals s (status_of d.0.end) j d.0.status_is (stream_is_none d.0.end))
kept_work (serves ruled from port most) before after s d j = absurd (served_status ruled from port most before after s d.0 j)
kept_work (keeps ruled text content task) before after s d j = (ruled, text, content, task, refl)
kept_work (freezes ruled from text stream most) before after s d j =
    absurd (freezes_not is_of_journal text d.0.seen d.0.end before.printed after.printed s d.0.freezes none_of_journal (is_journals s j))
kept_work (visits ruled script) before after s d j = absurd (visit_is_none s (visit_status d.0.end s d.0.status_is) j)

said_journals : (words : List (List ℕ)) (disk : Disk) (x : Said) (s : Status) → (asked words disk).says x → s ≡ x.status → IsJournals s → ⊥
said_journals words disk x s p e (inl j) = never_said words disk x JournalRefused refl p (sym j ∙ e)
said_journals words disk x s p e (inr j) = never_said words disk x JournalFault refl p (sym j ∙ e)

pub journals_are_kept : JournalsAreKept
journals_are_kept words disk before after s (said x p i) j =
    absurd (elim i.prints [ inl y ↦ said_journals words disk x s p y.0 j | inr y ↦ not_journals s WriteFault j y.0 refl ])
journals_are_kept words disk before after s (done w p d) j =
    let k = kept_work w before after s d j in (k.0, k.1, k.2, k.3, subst (λ x. (asked words disk).gives x) k.4 p)
journals_are_kept words disk before after s (read_fault e k) j = absurd (not_journals s ReadFault j e refl)
journals_are_kept words disk before after s (no_memory e k) j = absurd (not_journals s Memory j e refl)

-- ---- check

same_command : (a b : Command) → Some a ≡ Some b → a ≡ b
same_command a b e = cc

-- what is done is the work of the command that the words give
done_of : (words : List (List ℕ)) (disk : Disk) (c : Command) → command_of words ≡ Some c → Due words disk Done → (w : Work) × (work disk c).gives w
done_of words disk c is (inl (s, x, e)) = absurd (never_said words disk s Done refl x e)
done_of words disk c is (inr (w, x, e)) =
    let same : x.0 ≡ c = same_command x.0 c (sym x.1 ∙ is) in (w, subst (λ k. (work disk k).gives w) same x.2)

check_given : (disk : Disk) (name : List ℕ) (judging : Judging) (explain : Bool) (w : Work) → (work disk (Check name judging explain)).gives w
    → IsAcceptedFile disk name judging.schema
check_given disk name judging true w g = record {
  content = g.1.1.0;
  found = g.1.1.1;
  tree = g.1.0;
  reads = g.1.1.2;
  typed = g.1.2.1;
  by = g.2.0;
  is_schema = g.2.1;
  accepted = subst (λ t. Accepts t g.2.0) g.1.2.0 g.2.2.0;
}
check_given disk name judging false w g = record {
  content = g.1.1.1.0;
  found = g.1.1.1.1;
  tree = g.1.1.0;
  reads = g.1.1.1.2;
  typed = g.1.1.2.1;
  by = g.1.2.0;
  is_schema = g.1.2.1;
  accepted = subst (λ t. Accepts t g.1.2.0) g.1.1.2.0 g.1.2.2.2.1;
}

check_gives : (disk : Disk) (name : List ℕ) (judging : Judging) (explain : Bool) → IsAcceptedFile disk name judging.schema
    → (work disk (Check name judging explain)).gives (prints (line (codes "accepted")))
check_gives disk name judging true v =
    (v.tree, (v.tree, (v.content, v.found, v.reads), (refl, v.typed)), (v.by, v.is_schema, (v.accepted, refl)))
check_gives disk name judging false v = (
  record { service = v.tree; schema = v.by; formats = [] },
  (v.tree, (v.tree, (v.content, v.found, v.reads), (refl, v.typed)), (v.by, v.is_schema, ([], refl, (refl, v.accepted)))),
  refl,
)

pub check_is_done : CheckIsDone
check_is_done words disk name judging explain c = (
  λ d. let g = done_of words disk (Check name judging explain) c d in check_given disk name judging explain g.0 g.1,
  λ v. inr (prints (line (codes "accepted")), (Check name judging explain, c, check_gives disk name judging explain v), refl),
)

-- ---- valid

valid_given : (disk : Disk) (name : List ℕ) (named : Option (List ℕ)) (w : Work) → (work disk (Valid name named)).gives w → IsValidFile disk name named
valid_given disk name named w g = record {
  content = g.1.0;
  found = g.1.1;
  tree = g.0;
  page = g.1.2;
  by = g.2.0;
  is_schema = g.2.1;
  valid = g.2.2.0;
}

pub valid_is_done : ValidIsDone
valid_is_done words disk name named c = (
  λ d. let g = done_of words disk (Valid name named) c d in valid_given disk name named g.0 g.1,
  λ v. inr (prints (line (codes "valid")), (Valid name named, c, (v.tree, (v.content, v.found, v.page), (v.by, v.is_schema, (v.valid, refl)))), refl),
)
