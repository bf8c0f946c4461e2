-- Serving beside a journal: what is found in it, what is done to it, and the links that are served.
use Rattle.std.specs.Io.KnownBytes.{Appends}
use Rattle.std.proofs.Common.{◌≡◌, ◌⊎◌, ◌+◌, ℕ, List, [], ◌∷◌, ◌++◌, Option, None, Some, IfSome}
use Rattle.std.proofs.Common.{◌<◌, refl, sym, ap, ◌∙◌, subst, inl, inr, arith}
use Rattle.bw_check.specs.Accepts.{Accepts}
use Rattle.bw_format.specs.declared.format.Format.{Format}
use Rattle.bw_journal.specs.Layout.{Entry}
use Rattle.bw_journal.specs.Saved.{saved_head}
use Rattle.bw_keeping.specs.Answered.{AreAnswered, Exchange, IsAnswered, backs_of}
use Rattle.bw_keeping.specs.Served.{Serves, view}
use Rattle.bw_keeping.specs.declared.ended.Ended.{Ended}
use Rattle.bw_recall.specs.declared.recalling.Recalled.{Recalled}
use Rattle.bw_recall.specs.declared.recalling.Recalled.TheVariants as recalled
use Rattle.bw_lang.specs.declared.service.Service.{Service}
use Rattle.bw_model.specs.Sessions.{World}
use Rattle.bw_out.specs.Causes.{Rose}
use Rattle.bw_out.specs.Doors.{Returned, Asks, MayAsk}
use Rattle.bw_out.specs.Told.{Disk}
use Rattle.bw_out.specs.Writes.{AppendsPart}
use Rattle.bw_sound.proofs.Runs.{runs_are_good}
use Rattle.bw_stable.specs.Deeds.{Deed, DoesAll, cut, kept}
use Rattle.bw_stable.specs.Replacing.{replacing}
use Rattle.bw_world.specs.Seen.{Seen}
use Rattle.bw_world.specs.Stands.{StandsFor}
use Rattle.bw_questions.specs.Asked.{Ruled, Task}
use Rattle.bw_questions.specs.Behind.{content_of}
use Rattle.bw_questions.specs.Checks.{IsRuled}
use Rattle.bigwig.specs.Fits.{IsFitWorld}
use Rattle.bw_command.specs.Codes.{status_for}
use Rattle.bigwig.specs.Finding.{IsFoundIn, IsRead, IsRefusedBy, begun_by, sum_of}
use Rattle.bigwig.specs.Freezing.{file_of}
use Rattle.bigwig.specs.Keeping.{EndsWith, Follows, IsBegun, IsKept, IsUntouched, Keeps, ServesKept, rotate_of}
use Rattle.bigwig.specs.Keeping.IsBegun.{head, behind}
use Rattle.bigwig.specs.Keeping.IsKept.{stopped, refused, failed, half_begun, begun, renewed, preserved}
use Rattle.bigwig.specs.Keeping.Keeps.{no_port, no_line, links_served}
use Rattle.bigwig.specs.Lent.{ShowsJournal}
use Rattle.bigwig.specs.JournalLines.{journal_line}
use Rattle.bw_questions.specs.Questions.{Said, line}
use Rattle.bw_questions.specs.Reports.{IsReported}
use Rattle.bw_world.specs.Streams.Courses.{Between, begins}
use Rattle.bigwig.specs.Works.{AreServed, IsServed, Outside, serving_line}
use Rattle.bw_questions.specs.Reports.{Prints}
use Rattle.bigwig.specs.declared.bringing.Found.{Found}
use Rattle.bigwig.specs.declared.readying.Opening.{Opening}
use Rattle.bigwig.specs.declared.readying.Opening.TheVariants.{Head, Cut, Anew}
use Rattle.bw_command.specs.declared.status.Refusal.{Refusal}
use Rattle.bw_command.specs.declared.status.Refusal.TheVariants as refusals
use Rattle.bw_command.specs.declared.status.Status.{Status}
use Rattle.bw_command.specs.declared.status.Status.TheVariants as status
use Rattle.bw_questions.specs.declared.stop.Stop.{Stop}
use Rattle.bw_questions.specs.declared.stop.Stop.TheVariants as stop
use Rattle.bigwig.proofs.Reaching.{course_is_fit}

-- ---- links

-- a link that was answered beside a journal was served as one without
link_served : (ruled : Ruled) (from to : Between) (bytes : List ℕ) (back : Returned) (entries : List Entry) → Accepts ruled.service ruled.schema
    → IsFitWorld ruled from.world → IsAnswered ruled.formats ruled.service from bytes back to entries
    → IsServed ruled from bytes back to × IsFitWorld ruled to.world
link_served ruled from to bytes back entries accepts fit a =
    let later = course_is_fit ruled 1 (begins from bytes) (begins to a.rest) (Some []) back.written a.taken a.cost a.end accepts a.course fit in (
      record {
        end = a.end;
        streamed = record {
          rest = a.rest;
          taken = a.taken;
          cost = a.cost;
          course = a.course;
          unhandled = a.unhandled;
          steps = a.steps;
          pages = λ replies. runs_are_good ruled.formats ruled.service ruled.schema (begins from bytes) replies accepts fit.0;
          within = later.1;
        };
        read_fault = a.read_fault;
        write_fault = a.write_fault;
      },
      later,
    )

all_served : (ruled : Ruled) (from to : Between) (links rest : List (List ℕ)) (xs : List Exchange) → Accepts ruled.service ruled.schema
    → IsFitWorld ruled from.world → AreAnswered ruled.formats ruled.service from links xs to rest
    → AreServed ruled from links (backs_of xs) to rest
all_served ruled from to links rest [] accepts fit a = (a.0, a.1)
all_served ruled from to links rest (x ∷ xs) accepts fit a =
    let one = link_served ruled from a.2 a.0 x.back x.entries accepts fit a.4 in
    (a.0, a.1, a.2, a.3, one.0, all_served ruled a.2 to a.1 rest xs accepts one.1 a.5)

same_links : (o : Outside) (asked printed : Option (List ℕ)) (coming : Option (List (List ℕ))) (returned : Option (List Returned)) → coming ≡ o.coming
    → returned ≡ o.returned
    → record o { printed = printed; asked = asked; coming = coming; returned = returned } ≡ record o { printed = printed; asked = asked }
same_links o asked printed coming returned c r =
    ap (λ (x : Option (List (List ℕ))). let y : Outside = record o { printed = printed; asked = asked; coming = x; returned = returned } in y) c
    ∙ ap (λ (x : Option (List Returned)). let y : Outside = record o { printed = printed; asked = asked; returned = x } in y) r

-- the port couldn't be listened on
pub port_fails : (ruled : Ruled) (m : World) (port most sum : ℕ) (o : Outside) (asked : Option (List ℕ)) (coming : Option (List (List ℕ)))
    (returned : Option (List Returned)) → coming ≡ o.coming → returned ≡ o.returned → MayAsk o.asked asked port
    → Keeps ruled m port most sum o (record o { asked = asked; coming = coming; returned = returned }) status.DoorFault
port_fails ruled m port most sum o asked coming returned c r may = no_port refl may (same_links o asked o.printed coming returned c r)

-- the line was printed in a first part
pub line_fails : (ruled : Ruled) (m : World) (port most sum : ℕ) (o : Outside) (printed asked : Option (List ℕ)) (coming : Option (List (List ℕ)))
    (returned : Option (List Returned)) → coming ≡ o.coming → returned ≡ o.returned → Asks o.asked asked port
    → AppendsPart o.printed printed (serving_line port)
    → Keeps ruled m port most sum o (record o { printed = printed; asked = asked; coming = coming; returned = returned }) status.WriteFault
line_fails ruled m port most sum o printed asked coming returned c r asks part = no_line refl asks part (same_links o asked printed coming returned c r)

-- links were served
pub links_kept : (ruled : Ruled) (m : World) (seen later : Seen) (formats : List Format) (port most sum next : ℕ) (o after : Outside)
    (asked printed : Option (List ℕ)) (coming : Option (List (List ℕ))) (returned : Option (List Returned)) (end : Ended) (s : Status)
    → coming ≡ o.coming → returned ≡ o.returned → IsRuled seen.service formats ruled → StandsFor seen m → IsFitWorld ruled m
    → Asks o.asked asked port → after.asked ≡ asked → Appends o.printed printed (serving_line port) → EndsWith printed after.printed end s
    → Serves formats seen.service most (view seen o.keys coming returned o.deeds sum o.steps)
    (view later after.keys after.coming after.returned after.deeds next after.steps) end
    → Keeps ruled m port most sum o after s
links_kept ruled m seen later formats port most sum next o after asked printed coming returned end s c r is stands fit asks same whole ends serves =
    let now = view later after.keys after.coming after.returned after.deeds next after.steps in
    let here = view seen o.keys coming returned o.deeds sum o.steps in
    let by : Serves ruled.formats ruled.service most here now end =
    subst (λ f. Serves f ruled.service most here now end) (sym is.2) (subst (λ t. Serves formats t most here now end) (sym is.0) serves) in
    let all : ServesKept ruled m sum most o after end = λ keys k links l given g deeds d.
    let from : Between = record { world = m; keys = keys; steps = o.steps } in
    let x = by from links given deeds (record { stands = stands; keys = k; coming = c ∙ l; returned = r ∙ g; deeds = d; steps = refl }) in
    record {
      world = later;
      behind = next;
      served = x;
      good = all_served ruled from x.to links x.rest x.exchanges is.1 fit x.answered;
    } in
    links_served printed end (subst (λ a. Asks o.asked a port) (sym same) asks) whole ends all

-- ---- what is done to it

-- nothing was done to it before, so this is all that was
deeds_are : (P : List Deed → Type 0) (before now : Option (List Deed)) (deeds : List Deed) → IfSome before (λ all. all ≡ [])
    → DoesAll before now deeds → P deeds → IfSome now P
deeds_are P None now deeds none are p = subst (λ x. IfSome x P) (sym are) tt
deeds_are P (Some before) now deeds none are p =
    subst (λ x. IfSome x P) (sym are) (subst (λ b. P (b ++ deeds)) (sym none) p)

-- the journal was begun, and then the task was done beside it
pub begun_kept : (ruled : Ruled) (text content : List ℕ) (task : Task) (sum : ℕ) (seen : Seen) (opening : Opening) (o mid after : Outside) (s : Status)
    → IsRead ruled text content (rotate_of task) seen opening → sum ≡ sum_of opening → IfSome o.deeds (λ all. all ≡ [])
    → DoesAll o.deeds mid.deeds (begun_by opening o.returned o.printed)
    → mid ≡ record o { unread = mid.unread; steps = mid.steps; deeds = mid.deeds }
    → ((m : World) → StandsFor seen m → IsFitWorld ruled m → Follows ruled task m sum mid after s)
    → IsKept ruled text content task o after s
begun_kept ruled text content task sum seen (Head start n) o mid after s read same none are others follows =
    let f = read.is_found in
    begun recalled.New f.0 mid f.1 tt others
    (deeds_are (IsBegun text o.returned o.printed recalled.New) o.deeds mid.deeds _ none are
    (subst (λ h. IsBegun text o.returned o.printed recalled.New (cut 0 ∷ (kept h o.returned o.printed ∷ []))) (sym read.start_is) head))
    (subst (λ k. Follows ruled task f.0 k mid after s) (same ∙ read.sum_is) (follows f.0 f.2 f.3))
begun_kept ruled text content task sum seen (Cut len n) o mid after s read same none are others follows =
    let f = read.is_found in
    begun (recalled.Done len n) f.0 mid f.1 (read.stays f.0 f.2) others
    (deeds_are (IsBegun text o.returned o.printed (recalled.Done len n)) o.deeds mid.deeds _ none are (behind len n))
    (subst (λ k. Follows ruled task f.0 k mid after s) same (follows f.0 f.2 f.3))
begun_kept ruled text content task sum seen (Anew start n) o mid after s read same none are others follows =
    let f = read.is_found in
    renewed read.len read.before f.0 seen mid f.1 read.longer (record { service = read.service; stands = f.2; file = read.file }) others
    (deeds_are (λ all. all ≡ replacing (saved_head text (file_of text seen))) o.deeds mid.deeds _ none are (ap replacing read.start_is))
    (subst (λ k. Follows ruled task f.0 k mid after s) (same ∙ read.sum_is) (follows f.0 f.2 f.3))

abbrev said_so : Status → List ℕ → Said
said_so status text = record { status = status; text = text }

-- the program stopped at the journal
pub stopped_kept : (ruled : Ruled) (text content : List ℕ) (task : Task) (o : Outside) (unread printed : Option (List ℕ)) (steps : ℕ) (why : Stop) (s : Status)
    → IsRefusedBy ruled text content why → IsReported why o.printed printed s
    → IsKept ruled text content task o (record o { printed = printed; unread = unread; steps = steps }) s
stopped_kept ruled text content task o unread printed steps (stop.Says refusal said) s r p =
    refused r.0 r.1 (record { prints = subst (λ (x : Said). Prints x o.printed printed s) (says_journal refusal said.items r.0 r.2) p; kept = refl }) (inl refl)
  where
    says_journal : (refusal : Refusal) (text : List ℕ) (why : Recalled) → (refusal ≡ refusals.Journal) × (text ≡ line (journal_line why))
        → said_so (status_for refusal) text ≡ said_so status.JournalRefused (line (journal_line why))
    says_journal refusal text why e =
        ap (λ (x : Refusal). said_so (status_for x) text) e.0 ∙ ap (said_so status.JournalRefused) e.1
stopped_kept ruled text content task o unread printed steps stop.ReadFault s r p =
    stopped (inl p.0) (ap (λ (h : Option (List ℕ)). let x : Outside = record o { printed = h; unread = unread; steps = steps } in x) p.1) (inl refl)
stopped_kept ruled text content task o unread printed steps stop.Memory s r p =
    stopped (inr p.0) (ap (λ (h : Option (List ℕ)). let x : Outside = record o { printed = h; unread = unread; steps = steps } in x) p.1) (inl refl)

-- ---- the work

-- what was done before to a journal that was closed, and what is left of a file, are of no account
touched : (before d after : Option (List Deed)) → IfSome d (λ all. all ≡ []) → IsUntouched d after → IsUntouched before after
touched before d after none (inl e) = inr (subst (λ x. IfSome x (λ all. all ≡ [])) (sym e) none)
touched before d after none (inr h) = inr h

pub of_journal : (ruled : Ruled) (text content : List ℕ) (task : Task) (before after : Outside) (d : Option (List Deed)) (s : Status)
    → IfSome d (λ all. all ≡ []) → IsKept ruled text content task (record before { deeds = d }) after s
    → IsKept ruled text content task before after s
of_journal ruled text content task before after d s none (stopped e k u) = stopped e k (touched before.deeds d after.deeds none u)
of_journal ruled text content task before after d s none (refused why r i u) =
    refused why r (record { prints = i.prints; kept = i.kept }) (touched before.deeds d after.deeds none u)
of_journal ruled text content task before after d s none (failed n i u) =
    failed n (record { prints = i.prints; kept = i.kept }) (touched before.deeds d after.deeds none u)
of_journal ruled text content task before after d s none (half_begun n all w f i) = half_begun n all w f (record { prints = i.prints; kept = i.kept })
of_journal ruled text content task before after d s none (begun found world mid h l k b ks) = begun found world mid h l k b ks
of_journal ruled text content task before after d s none (renewed len sum world seen mid h l r k b ks) = renewed len sum world seen mid h l r k b ks
of_journal ruled text content task before after d s none (preserved found world seen is h e st fr k u) =
    preserved found world seen is h e st fr k (touched before.deeds d after.deeds none u)

pub of_reading : (ruled : Ruled) (text content : List ℕ) (task : Task) (before after : Outside) (u : Option (List ℕ)) (n : ℕ) (s : Status)
    → IsKept ruled text content task (record before { unread = u; steps = n }) after s → IsKept ruled text content task before after s
of_reading ruled text content task before after u n s (stopped e k h) = stopped e k h
of_reading ruled text content task before after u n s (refused why r i h) = refused why r (record { prints = i.prints; kept = i.kept }) h
of_reading ruled text content task before after u n s (failed o i h) = failed o (record { prints = i.prints; kept = i.kept }) h
of_reading ruled text content task before after u n s (half_begun o all w f i) = half_begun o all w f (record { prints = i.prints; kept = i.kept })
of_reading ruled text content task before after u n s (begun found world mid h l k b ks) = begun found world mid h l k b ks
of_reading ruled text content task before after u n s (renewed len sum world seen mid h l r k b ks) = renewed len sum world seen mid h l r k b ks
of_reading ruled text content task before after u n s (preserved found world seen is h e st fr k t) = preserved found world seen is h e st fr k t

-- ---- where the files tell

pub told_all : (told : Option Disk) (P : Disk → Type 0) → ((disk : Disk) → P disk) → IfSome told P
told_all None P h = tt
told_all (Some disk) P h = h disk

-- the program stopped at the journal
pub stopped_told : (told : Option Disk) (service : Service) (formats : List Format) (name text given : List ℕ) (P : Task → Type 0) (o : Outside)
    (unread printed : Option (List ℕ)) (steps : ℕ) (why : Stop) (s : Status) → given ≡ text
    → IfSome told (λ disk. (ruled : Ruled) → IsRuled service formats ruled → IsRefusedBy ruled given (content_of (disk name)) why)
    → IsReported why o.printed printed s
    → IfSome told (λ disk. (ruled : Ruled) (x : Task) → IsRuled service formats ruled → P x
    → IsKept ruled text (content_of (disk name)) x o (record o { printed = printed; unread = unread; steps = steps }) s)
stopped_told None service formats name text given P o unread printed steps why s same r p = tt
stopped_told (Some disk) service formats name text given P o unread printed steps why s same r says = λ ruled x is p.
    stopped_kept ruled text (content_of (disk name)) x o unread printed steps why s
    (subst (λ t. IsRefusedBy ruled t (content_of (disk name)) why) same (r ruled is)) says

-- all of the journal was read, and then it was begun
pub begun_told : (told : Option Disk) (service now : Service) (formats held : List Format) (name text given other : List ℕ) (P : Task → Type 0)
    (o after : Outside) (u : Option (List ℕ)) (n : ℕ) (seen : Seen) (found : Found) (s : Status) → now ≡ service → held ≡ formats → given ≡ text
    → other ≡ text
    → IfSome told (λ disk. (ruled : Ruled) → IsRuled service formats ruled → IsFoundIn ruled given (content_of (disk name)) seen found)
    → ((ruled : Ruled) (content : List ℕ) (x : Task) → IsRuled now held ruled → P x → IsFoundIn ruled other content seen found
    → IsKept ruled other content x (record o { unread = u; steps = n }) after s)
    → IfSome told (λ disk. (ruled : Ruled) (x : Task) → IsRuled service formats ruled → P x → IsKept ruled text (content_of (disk name)) x o after s)
begun_told None service now formats held name text given other P o after u n seen found s e f t v finds by_task = tt
begun_told (Some disk) service now formats held name text given other P o after u n seen found s e f t v finds by_task = λ ruled x is p.
    let content = content_of (disk name) in
    of_reading ruled text content x o after u n s
    (subst (λ (y : List ℕ). IsKept ruled y content x (record o { unread = u; steps = n }) after s) v
    (by_task ruled content x (is.0 ∙ sym e, is.1, is.2 ∙ sym f) p
    (subst (λ (y : List ℕ). IsFoundIn ruled y content seen found) (t ∙ sym v) (finds ruled is))))

-- the journal was closed again
pub closed_told : (told : Option Disk) (service : Service) (formats : List Format) (name text : List ℕ) (P : Task → Type 0) (before after : Outside)
    (d e : Option (List Deed)) (s : Status) → IfSome d (λ all. all ≡ []) → after.deeds ≡ e
    → IfSome told (λ disk. (ruled : Ruled) (x : Task) → IsRuled service formats ruled → P x
    → IsKept ruled text (content_of (disk name)) x (record before { deeds = d }) (record after { deeds = e }) s)
    → IfSome told (λ disk. (ruled : Ruled) (x : Task) → IsRuled service formats ruled → P x → IsKept ruled text (content_of (disk name)) x before after s)
closed_told None service formats name text P before after d e s none closed h = tt
closed_told (Some disk) service formats name text P before after d e s none closed h = λ ruled x is p.
    of_journal ruled text (content_of (disk name)) x before after d s none
    (subst (λ (all : Option (List Deed)). IsKept ruled text (content_of (disk name)) x (record before { deeds = d }) (record after { deeds = all }) s)
    (sym closed) (h ruled x is p))

-- ---- causes

-- what a journal had when it was closed is what the journals then show
pub journal_shows : (s : Status) (j k x y z : ℕ) → j ≡ 0 → ShowsJournal s j k → y ≡ x → (0 < k → Rose y z) → (k ≡ 0 → z ≡ y) → ShowsJournal s x z
journal_shows s j k x y z none shows same rose still = record {
  only = λ t. subst (λ m. Rose m z) same (rose (let up = subst (λ m. Rose m k) none (shows.only t) in omega (arith, up)));
  other = λ f g. still (shows.other f g ∙ none) ∙ same;
}

-- it couldn't be opened
pub open_fails : (s : Status) (x y : ℕ) → (s ≡ status.JournalFault) ⊎ (s ≡ status.WriteFault) → Rose x y → ShowsJournal s x y
open_fails s x y told rose = record {
  only = λ e. rose;
  other = λ f g. absurd (elim told [ inl e ↦ f e | inr e ↦ g e ]);
}
