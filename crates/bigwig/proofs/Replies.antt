-- Streams that are answered by an accepted service: the requests of a file, and the links of a port.
use Rattle.std.specs.Io.KnownBytes.{Appends}
use Rattle.std.proofs.Common.{◌≡◌, ◌⊎◌, ℕ, List, [], ◌++◌, Option, None, Some, IfSome, refl, sym, ap, ◌∙◌, subst, inl, inr}
use Rattle.bw_world.specs.Streams.Answers.{Place, IsAt, Answers}
use Rattle.bw_world.specs.Streams.Good.{RepliesAreGood}
use Rattle.bw_world.specs.declared.ends.StreamEnd.{StreamEnd}
use Rattle.bw_check.specs.Accepts.{Accepts}
use Rattle.bw_format.specs.declared.format.Format.{Format}
use Rattle.bw_lang.specs.declared.service.Service.{Service}
use Rattle.bw_model.specs.Runs.{At}
use Rattle.bw_save.specs.Frozen.{loaded_of}
use Rattle.bw_save.proofs.Stood.{saved_stands}
use Rattle.bw_model.specs.Sessions.{World}
use Rattle.bw_out.specs.Doors.{Returned, Asks, MayAsk}
use Rattle.bw_stable.specs.Deeds.{Deed}
use Rattle.bw_out.specs.Told.{Coming, Disk, Finds}
use Rattle.bw_out.specs.Writes.{AppendsPart}
use Rattle.bw_world.specs.Seen.{Seen}
use Rattle.bw_world.specs.Stands.{StandsFor}
use Rattle.bw_questions.specs.Asked.{Ruled, Work, accepted_file, file}
use Rattle.bigwig.specs.Asked.{replayed, at_port}
use Rattle.bw_questions.specs.Asked.Work.{replays, serves}
use Rattle.bw_questions.specs.Checks.{IsRuled}
use Rattle.bigwig.specs.Fits.{IsFitStart, IsFitWorld}
use Rattle.bw_command.specs.Codes.{status_for}
use Rattle.bw_questions.specs.Lines.{no_file_line}
use Rattle.bigwig.specs.Outcomes.{Comes, Replies}
use Rattle.bw_world.specs.Streams.Courses.{Between, begins}
use Rattle.bigwig.specs.Works.{Outside, outside, IsReplayed, IsStreamed, ServesLinks, serving_line, status_of}
use Rattle.bigwig.specs.Outcomes.Comes.{done, read_fault, no_memory}
use Rattle.bigwig.specs.Works.IsServing.{no_port, no_line, links_served}
use Rattle.bw_questions.specs.Questions.{Said, Question, IsStop, found, line}
use Rattle.bw_questions.specs.Reports.{IsReported, SaysLine}
use Rattle.bw_command.specs.declared.command.Judging.{Judging}
use Rattle.bw_command.specs.declared.status.Refusal.{Refusal}
use Rattle.bw_command.specs.declared.status.Refusal.TheVariants as refusals
use Rattle.bw_command.specs.declared.status.Status.{Status}
use Rattle.bw_command.specs.declared.status.Status.TheVariants as status
use Rattle.bw_questions.specs.declared.stop.Stop.{Stop}
use Rattle.bw_questions.specs.declared.stop.Stop.TheVariants as stop
use Rattle.bw_questions.proofs.Answering.{stops_first}
use Rattle.bigwig.proofs.Endings.{stopped_so}
use Rattle.bigwig.proofs.Links.{given_so}
use Rattle.bigwig.proofs.Reaching.{course_is_fit}

-- ---- accepted services

-- a service that was found is accepted by the schema that was found
pub found_accepted : (disk : Disk) (name : List ℕ) (judging : Judging) (form : Option (List ℕ)) (ruled : Ruled) → (accepted_file disk name judging form).gives ruled
    → IsRuled ruled.service ruled.formats ruled
found_accepted disk name judging form ruled g = (refl, subst (λ (r : Ruled). Accepts r.service r.schema) (sym g.2.2.2.0) g.2.2.2.1, refl)

-- ---- the requests of a file

-- nothing has changed, whatever was asked
pub nothing_replied : (told : Option Disk) (service : Service) (formats : List Format) (q : Disk → Ruled → Question Work) (held : Option (List ℕ))
    (keys : Option Coming) (unread : Option (List ℕ)) (steps : ℕ) (r : Status) → (r ≡ status.ReadFault) ⊎ (r ≡ status.Memory)
    → IfSome told (λ d. (ruled : Ruled) → IsRuled service formats ruled → Replies (q d ruled) held held keys keys unread steps steps r)
nothing_replied None service formats q held keys unread steps r why = tt
nothing_replied (Some d) service formats q held keys unread steps r (inl e) = λ ruled is o. read_fault e refl
nothing_replied (Some d) service formats q held keys unread steps r (inr e) = λ ruled is o. no_memory e refl

pub absent_stop : (disk : Disk) (name : List ℕ) (s : Stop) → disk name ≡ None → SaysLine refusals.File (no_file_line name) s → IsStop (file disk name) s
absent_stop disk name (stop.Says refusal text) e a = (
  e,
  ap (λ (x : Refusal). let s : Said = record { status = status_for x; text = text.items } in s) a.0
      ∙ ap (λ (t : List ℕ). let s : Said = record { status = status.NoFile; text = t } in s) a.1,
)
absent_stop disk name stop.ReadFault e a = absurd a
absent_stop disk name stop.Memory e a = tt

-- there is no file of the name
pub absent_replied : {File : Type 0} (left : File → Option (List ℕ)) (told : Option Disk) (name : List ℕ) (next : Option File) (s : Stop)
    (service : Service) (formats : List Format) (from : World) (most : ℕ) (held now : Option (List ℕ)) (keys : Option Coming) (unread : Option (List ℕ))
    (steps : ℕ) (r : Status) → next ≡ None
    → Finds left told name next → SaysLine refusals.File (no_file_line name) s → IsReported s held now r
    → IfSome told (λ d. (ruled : Ruled) → IsRuled service formats ruled → Replies (replayed d name most ruled from) held now keys keys unread steps steps r)
absent_replied left None name next s service formats from most held now keys unread steps r none f a p = tt
absent_replied left (Some d) name next s service formats from most held now keys unread steps r none f a p =
    let stops = absent_stop d name s (subst (λ x. Finds left (Some d) name x) none f) a in
    λ ruled is o.
    stopped_so (replayed d name most ruled from) s held now r
    (stops_first (file d name) (λ stream. found (replays ruled from stream most)) s stops) p (record o { keys = keys; steps = steps }) unread

-- a stream was answered from this world on
pub stream_streamed : (ruled : Ruled) (from : World) (bytes : List ℕ) (most : ℕ) (old new : Place) (end : StreamEnd)
    → Accepts ruled.service ruled.schema → StandsFor old.seen from → IsFitWorld ruled from → old.taken ≡ [] → old.left ≡ Some bytes
    → Answers ruled.formats ruled.service most old new end → RepliesAreGood ruled.formats ruled.service old
    → (keys : Coming) → old.keys ≡ Some keys → (to : Between) × (new.keys ≡ Some to.keys) × (new.steps ≡ to.steps) × StandsFor new.seen to.world
    × IsStreamed most ruled (record { world = from; keys = keys; steps = old.steps }) bytes to old.held new.held new.left end
stream_streamed ruled from bytes most old new end accepts stands fit none left answers good keys k =
    let at : At = begins (record { world = from; keys = keys; steps = old.steps }) bytes in
    let here : IsAt old at = record { stands = stands; bytes = (bytes, left, sym (ap (λ l. l ++ bytes) none)); keys = k } in
    let a = answers at here in (
      record { world = a.0.world; keys = a.0.keys; steps = new.steps },
      a.2.keys,
      refl,
      a.2.stands,
      record {
        rest = a.0.bytes;
        taken = new.taken;
        cost = a.1;
        course = a.4;
        unhandled = a.2.bytes;
        steps = a.3;
        pages = λ replies. good ruled.schema at replies accepts here fit.0;
        within = (course_is_fit ruled most at a.0 old.held new.held new.taken a.1 end accepts a.4 fit).1;
      },
    )

stream_replied : (ruled : Ruled) (from : World) (bytes : List ℕ) (most : ℕ) (old new : Place) (end : StreamEnd) (r : Status) (o : Outside)
    → Accepts ruled.service ruled.schema → r ≡ status_of end → StandsFor old.seen from → IsFitWorld ruled from
    → old.taken ≡ [] → old.left ≡ Some bytes
    → Answers ruled.formats ruled.service most old new end → RepliesAreGood ruled.formats ruled.service old
    → IsReplayed ruled from bytes most (record o { printed = old.held; keys = old.keys; steps = old.steps })
    (record o { printed = new.held; keys = new.keys; unread = new.left; steps = new.steps }) r
stream_replied ruled from bytes most old new end r o accepts e stands fit none left answers good = record {
  end = end;
  status_is = e;
  streamed = λ keys k.
      let x = stream_streamed ruled from bytes most old new end accepts stands fit none left answers good keys k in (x.0, x.1, x.2, x.4);
  kept = (refl, refl, refl);
}

-- the requests of a file were answered
pub requests_replied : {File : Type 0} (left : File → Option (List ℕ)) (told : Option Disk) (name : List ℕ) (next : Option File) (file : File)
    (formats : List Format) (most : ℕ) (old new : Place) (unread : Option (List ℕ)) (end : StreamEnd) (r : Status) → unread ≡ new.left → r ≡ status_of end → next ≡ Some file
    → Finds left told name next
    → IsFitStart formats old.seen → old.taken ≡ [] → old.left ≡ left file
    → Answers formats old.seen.service most old new end
    → RepliesAreGood formats old.seen.service old
    → IfSome told (λ d. (ruled : Ruled) → IsRuled old.seen.service formats ruled
    → Replies (replayed d name most ruled (loaded_of old.seen)) old.held new.held old.keys new.keys unread old.steps new.steps r)
requests_replied left None name next file formats most old new unread end r was e some f fit none here answers good = tt
requests_replied left (Some d) name next file formats most old new unread end r was e some f fit none here answers good =
    let found_so = subst (λ x. Finds left (Some d) name x) some f in
    λ ruled is o.
    let same : old.seen.service ≡ ruled.service = sym is.0 in
    let form : formats ≡ ruled.formats = sym is.2 in
    let from = loaded_of old.seen in
    done (replays ruled from found_so.0 most) (found_so.0, found_so.1, refl) (
      (subst (λ u. IsReplayed ruled from found_so.0 most (record o { printed = old.held; keys = old.keys; steps = old.steps })
          (record o { printed = new.held; keys = new.keys; unread = u; steps = new.steps }) r) (sym was)
          (stream_replied ruled from found_so.0 most old new end r o is.1 e (saved_stands old.seen) (fit ruled is) none (here ∙ found_so.2)
          (subst (λ f. Answers f ruled.service most old new end) form (subst (λ s. Answers formats s most old new end) same answers))
          (subst (λ f. RepliesAreGood f ruled.service old) form (subst (λ s. RepliesAreGood formats s old) same good)))),
      refl,
    )

-- ---- links

pub outside_same : (p : Option (List ℕ)) (k : Option Coming) (a : Option (List ℕ)) (c d : Option (List (List ℕ))) (r t : Option (List Returned))
    (u : Option (List ℕ)) (s : ℕ) (m : Option (List Deed)) → c ≡ d → r ≡ t → outside p k a c r u s m ≡ outside p k a d t u s m
outside_same p k a c d r t u s m e f = ap (λ x. outside p k a x r u s m) e ∙ ap (λ x. outside p k a d x u s m) f

-- the port couldn't be listened on
pub no_port_comes : (ruled : Ruled) (from : World) (port most : ℕ) (o : Outside) (asked : Option (List ℕ)) (coming : Option (List (List ℕ)))
    (returned : Option (List Returned)) (unread : Option (List ℕ)) → coming ≡ o.coming → returned ≡ o.returned → MayAsk o.asked asked port
    → Comes (at_port port most ruled from) o (outside o.printed o.keys asked coming returned unread o.steps o.deeds) status.DoorFault
no_port_comes ruled from port most o asked coming returned unread e f a =
    done (serves ruled from port most) refl
    (no_port refl a (outside_same o.printed o.keys asked coming o.coming returned o.returned unread o.steps o.deeds e f), refl)

-- the line was printed in a first part
pub no_line_comes : (ruled : Ruled) (from : World) (port most : ℕ) (o : Outside) (printed asked : Option (List ℕ)) (coming : Option (List (List ℕ)))
    (returned : Option (List Returned)) (unread : Option (List ℕ)) → coming ≡ o.coming → returned ≡ o.returned
    → Asks o.asked asked port → AppendsPart o.printed printed (serving_line port)
    → Comes (at_port port most ruled from) o (outside printed o.keys asked coming returned unread o.steps o.deeds) status.WriteFault
no_line_comes ruled from port most o printed asked coming returned unread e f a p =
    done (serves ruled from port most) refl
    (no_line refl a p (outside_same printed o.keys asked coming o.coming returned o.returned unread o.steps o.deeds e f), refl)

-- links were served
pub serving_comes : (ruled : Ruled) (seen : Seen) (formats : List Format) (port most : ℕ) (o after : Outside) (asked : Option (List ℕ))
    (coming : Option (List (List ℕ))) (returned : Option (List Returned)) (s : Status) → coming ≡ o.coming → returned ≡ o.returned
    → IsRuled seen.service formats ruled → IsFitStart formats seen → Asks o.asked asked port → after.asked ≡ asked
    → after.deeds ≡ o.deeds → Appends o.printed after.printed (serving_line port) → (s ≡ status.Done) ⊎ (s ≡ status.DoorFault)
    → ((r : Ruled) (m : World) → IsRuled seen.service formats r → StandsFor seen m → IsFitWorld r m
    → ServesLinks r m most (outside None o.keys asked coming returned None o.steps None) (record after { printed = None; unread = None; deeds = None }) s)
    → Comes (at_port port most ruled (loaded_of seen)) o after s
serving_comes ruled seen formats port most o after asked coming returned s e f is fit asks same still line ends gives =
    let unprinted : Outside = record after { printed = None; unread = None; deeds = None } in
    let world = loaded_of seen in
    let from = gives ruled world is (saved_stands seen) (fit ruled is) in
    let all : ServesLinks ruled world most o after s = λ keys k links l given g.
    let x = from keys k links (e ∙ l) given (f ∙ g) in
    (x.0, x.1, x.2, given_so ruled _ links given x.0 x.1 x.2 unprinted after x.3 refl refl refl refl, x.4, x.5) in
    done (serves ruled world port most) refl (links_served ends (subst (λ x. Asks o.asked x port) (sym same) asks) line all, still)
