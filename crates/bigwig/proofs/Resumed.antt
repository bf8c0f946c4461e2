-- Requests that are answered beside a journal.
use Rattle.std.proofs.Common.{◌≡◌, ℕ, List, [], ◌++◌, Option, None, Some, IfSome, refl, sym, subst}
use Rattle.bw_format.specs.declared.format.Format.{Format}
use Rattle.bw_keeping.specs.Streamed.{Streams, sight}
use Rattle.bw_keeping.specs.declared.ended.StreamEnded.{StreamEnded}
use Rattle.bw_keeping.proofs.StreamsWithin.{streams_keep_within}
use Rattle.bw_lang.specs.declared.service.Service.{Service}
use Rattle.bw_model.specs.Runs.{At}
use Rattle.bw_model.specs.Sessions.{World}
use Rattle.bw_out.specs.Told.{Disk, Finds}
use Rattle.bw_world.specs.Seen.{Seen}
use Rattle.bw_world.specs.Stands.{StandsFor}
use Rattle.bw_world.specs.Streams.Answers.{IsAt, between}
use Rattle.bw_world.specs.Streams.Good.{RepliesAreGood}
use Rattle.bw_questions.specs.Asked.{Ruled, Task, file}
use Rattle.bigwig.specs.Asked.{beside, resumed}
use Rattle.bw_questions.specs.Asked.Task.{to_answer}
use Rattle.bw_questions.specs.Asked.Work.{keeps}
use Rattle.bw_questions.specs.Behind.{content_of}
use Rattle.bw_questions.specs.Checks.{IsRuled}
use Rattle.bigwig.specs.Fits.{IsFitWorld}
use Rattle.bigwig.specs.Keeping.{AnswersEndWith, AnswersKept, IsKept, Resumes}
use Rattle.bw_questions.specs.Lines.{no_file_line}
use Rattle.bigwig.specs.Outcomes.{Comes}
use Rattle.bigwig.specs.Outcomes.Comes.{done}
use Rattle.bw_questions.specs.Reports.{IsReported, SaysLine}
use Rattle.bw_world.specs.Streams.Courses.{Between, begins}
use Rattle.bigwig.specs.Works.{Outside}
use Rattle.bw_command.specs.declared.status.Refusal.TheVariants as refusals
use Rattle.bw_command.specs.declared.status.Status.{Status}
use Rattle.bw_questions.specs.declared.stop.Stop.{Stop}
use Rattle.bigwig.proofs.Beside.{of_reading}
use Rattle.bw_questions.proofs.Answering.{stops_first}
use Rattle.bigwig.proofs.Endings.{stopped_so}
use Rattle.bigwig.proofs.Replies.{absent_stop}

-- ---- the stream

-- what a stream got beside a journal that was begun
pub stream_resumed : (ruled : Ruled) (m : World) (seen later : Seen) (formats : List Format) (stream held taken : List ℕ) (most sum next : ℕ)
    (o after : Outside) (left rest printed : Option (List ℕ)) (end : StreamEnded) (s : Status) → IsRuled seen.service formats ruled → StandsFor seen m
    → IsFitWorld ruled m → held ≡ [] → left ≡ Some stream → after.unread ≡ rest → AnswersEndWith printed after.printed end s
    → Streams formats seen.service most o.returned (sight (between seen held left o.printed o.keys o.steps) o.deeds sum)
    (sight (between later taken rest printed after.keys after.steps) after.deeds next) end
    → RepliesAreGood formats seen.service (between seen held left o.printed o.keys o.steps) → after.asked ≡ o.asked → after.coming ≡ o.coming
    → after.returned ≡ o.returned → Resumes ruled m stream most sum o after s
stream_resumed ruled m seen later formats stream held taken most sum next o after left rest printed end s is stands fit none has closed ends streams good
    asked coming returned =
    let old = sight (between seen held left o.printed o.keys o.steps) o.deeds sum in
    let new = sight (between later taken after.unread printed after.keys after.steps) after.deeds next in
    let told : Streams formats seen.service most o.returned old new end =
    subst (λ u. Streams formats seen.service most o.returned old (sight (between later taken u printed after.keys after.steps) after.deeds next) end)
    (sym closed) streams in
    let by : Streams ruled.formats ruled.service most o.returned old new end =
    subst (λ f. Streams f ruled.service most o.returned old new end) (sym is.2)
    (subst (λ t. Streams formats t most o.returned old new end) (sym is.0) told) in
    let all : RepliesAreGood ruled.formats ruled.service old.place =
    subst (λ f. RepliesAreGood f ruled.service old.place) (sym is.2) (subst (λ t. RepliesAreGood formats t old.place) (sym is.0) good) in
    let answers : AnswersKept ruled m stream most sum o printed after end = λ keys k shown p deeds d.
    let from : Between = record { world = m; keys = keys; steps = o.steps } in
    let at : At = begins from stream in
    let here : IsAt old.place at = record { stands = stands; bytes = (stream, has, starts stream held none); keys = k } in
    let h = by at shown deeds here p d in
    record {
      world = later;
      taken = taken;
      behind = next;
      streamed = h;
      pages = λ replies. all ruled.schema at replies is.1 here fit.0;
      within = streams_keep_within ruled.formats ruled.service most o.returned sum o.steps at shown deeds new end h fit.1;
    } in
    record { end = end; printed = printed; ends = ends; answers = answers; kept = (asked, coming, returned) }
  where
    starts : (stream held : List ℕ) → held ≡ [] → stream ≡ held ++ stream
    starts stream held none = subst (λ (h : List ℕ). stream ≡ h ++ stream) (sym none) refl

-- ---- the work

-- there is no file of requests
pub file_absent : {File : Type 0} (left : File → Option (List ℕ)) (told : Option Disk) (from journal text named : List ℕ) (next : Option File)
    (why : Stop) (service : Service) (formats : List Format) (most : ℕ) (o : Outside) (printed unread : Option (List ℕ)) (s : Status) → next ≡ None
    → Finds left told named next → named ≡ from → SaysLine refusals.File (no_file_line named) why → IsReported why o.printed printed s
    → IfSome told (λ d. (ruled : Ruled) (name : List ℕ) → IsRuled service formats ruled → d name ≡ Some text
    → Comes (resumed d name from journal most ruled) o (record o { printed = printed; unread = unread }) s)
file_absent left None from journal text named next why service formats most o printed unread s none f n says reported = tt
file_absent left (Some d) from journal text named next why service formats most o printed unread s none f n says reported = λ ruled name is there.
    let stops = absent_stop d from why (subst (λ k. d k ≡ None) n (subst (λ x. Finds left (Some d) named x) none f))
    (subst (λ k. SaysLine refusals.File (no_file_line k) why) n says) in
    stopped_so (resumed d name from journal most ruled) why o.printed printed s
    (stops_first (file d from) (λ stream. beside d name journal (to_answer stream most) ruled) why stops) reported o unread

-- the file of requests was found, and then it was answered beside the journal
pub file_resumed : {File : Type 0} (left : File → Option (List ℕ)) (told later : Option Disk) (from journal other text named : List ℕ)
    (next : Option File) (found : File) (service : Service) (formats : List Format) (most : ℕ) (P : Task → Type 0) (before : Outside)
    (u : Option (List ℕ)) (after : Outside) (s : Status)
    → next ≡ Some found → Finds left told named next → later ≡ told → named ≡ from → other ≡ journal
    → ((stream : List ℕ) → left found ≡ Some stream → P (to_answer stream most))
    → IfSome later (λ d. (ruled : Ruled) (x : Task) → IsRuled service formats ruled → P x
    → IsKept ruled text (content_of (d other)) x (record before { unread = u }) after s)
    → IfSome told (λ d. (ruled : Ruled) (name : List ℕ) → IsRuled service formats ruled → d name ≡ Some text
    → Comes (resumed d name from journal most ruled) before after s)
file_resumed left None later from journal other text named next found service formats most P before u after s some f e n m is h = tt
file_resumed left (Some d) later from journal other text named next found service formats most P before u after s some f e n m is h = λ ruled name r there.
    let has = subst (λ x. Finds left (Some d) named x) some f in
    let all = subst (λ o. IfSome o (λ d. (ruled : Ruled) (x : Task) → IsRuled service formats ruled → P x
    → IsKept ruled text (content_of (d other)) x (record before { unread = u }) after s)) e h in
    let kept = subst (λ k. IsKept ruled text (content_of (d k)) (to_answer has.0 most) (record before { unread = u }) after s) m
    (all ruled (to_answer has.0 most) r (is has.0 has.2)) in
    done (keeps ruled text (content_of (d journal)) (to_answer has.0 most)) (has.0, subst (λ k. d k ≡ Some has.0) n has.1, (text, there, refl))
    (of_reading ruled text (content_of (d journal)) (to_answer has.0 most) before after u before.steps s kept)
