-- The headline follows from what the program comes to.
use Rattle.std.proofs.Common.{◌≡◌, ◌⊎◌, ◌<◌, ◌≤◌, ℕ, false, List, [], ◌∷◌, ◌++◌, length, Option, None, Some, IfSome, refl, sym, ap, ◌∙◌, subst, inl, inr}
use Rattle.std.proofs.Common.{arith, append-nil, append_assoc, length-append}
use Rattle.std.specs.Io.KnownBytes.{Appends}
use Rattle.bw_format.specs.declared.format.Format.{Format}
use Rattle.bw_world.specs.Streams.Courses.{Course, IsBroken, bytes_by, Between, begins}
use Rattle.bw_world.specs.declared.ends.StreamEnd.{StreamEnd}
use Rattle.bw_world.specs.declared.ends.StreamEnd.TheVariants as ends
use Rattle.bw_world.proofs.Streams.Streams.{answer_then}
use Rattle.bw_http.specs.declared.replies.Reply.{Reply}
use Rattle.bw_lang.specs.Service.Reads.{Reads}
use Rattle.bw_lang.specs.declared.service.Service.{Service}
use Rattle.bw_lang.proofs.Small.{readable_is_woven}
use Rattle.bw_model.specs.Laws.{is_page}
use Rattle.bw_model.specs.Runs.{At, Turn, Turns, Run, answer_of, wants}
use Rattle.bw_model.specs.Runs.Turn.{request, no_memory}
use Rattle.bw_model.specs.Sessions.{World, empty}
use Rattle.bw_model.specs.Within.{AreWithin}
use Rattle.bw_model.proofs.Cases.{others_change_nothing}
use Rattle.bw_model.proofs.Storing.{turn_within}
use Rattle.bw_out.specs.Causes.{Shows}
use Rattle.bw_out.specs.Doors.{Returned}
use Rattle.bw_out.specs.Told.{Coming, Disk}
use Rattle.bw_schema.specs.Reads.{Reads as ReadsSchema}
use Rattle.bw_schema.specs.declared.schema.Schema.{Schema}
use Rattle.bw_sound.specs.Good.{AreGood}
use Rattle.bw_types.specs.Faults.{IsWellTyped}
use Rattle.bw_types.specs.Typing.{IsTypedService}
use Rattle.bw_types.proofs.WellTyped.{typed}
use Rattle.bw_world.specs.Stands.{StandsFor}
use Rattle.bw_questions.specs.Asked.{Ruled, Work, accepted_file, formats, schema}
use Rattle.bigwig.specs.Asked.{asked, start, work}
use Rattle.bw_command.specs.Commands.{command_of}
use Rattle.bigwig.specs.Freezing.{IsFreezing, file_of}
use Rattle.bigwig.specs.Headline.{AreAnswered, AreFormatsOf, AreRight, Headline, IsAnswer, IsAnswered, IsLit, IsFreeze, IsReplay, IsServe, IsServiceOf, IsVisit}
use Rattle.bigwig.specs.Headline.{StartsAt, rules_text}
use Rattle.bw_visit.specs.Visits.{End}
use Rattle.bigwig.specs.Headline.IsAnswered.{whole, broken, unread}
use Rattle.bigwig.specs.Outcomes.{Comes, IsDone}
use Rattle.bw_questions.specs.Asked.{Script}
use Rattle.bigwig.specs.Visiting.{HasVisited, IsStatusOf, IsVisited}
use Rattle.bigwig.specs.Works.{AreServed, IsReplayed, IsSaid, IsServing, IsStreamed, Outside, status_of}
use Rattle.bigwig.specs.Outcomes.Comes.{said, done, read_fault, no_memory as no_room}
use Rattle.bigwig.specs.Works.IsServing.{no_port, no_line, links_served}
use Rattle.bw_command.specs.declared.command.Command.{Command}
use Rattle.bw_command.specs.declared.command.Command.TheVariants.{Replay, Serve, Light, Freeze, Visit}
use Rattle.bw_command.specs.declared.command.Judging.{Judging}
use Rattle.bw_command.specs.declared.status.Status.{Status}
use Rattle.bw_command.specs.declared.status.Status.TheVariants as status
use Rattle.bigwig.proofs.Refusals.{never_said}
use Rattle.bigwig.proofs.Starting.{start_within, starts_at, frozen_done}

-- ---- messages

-- a message that is answered by no page has changed nothing
quiet : (formats : List Format) (service : Service) (at to : At) (reply : Reply) (cost : ℕ) → Turn formats service at reply cost to
    → is_page reply ≡ false → to.world ≡ at.world
quiet formats service at to reply cost (request q cut is k) none =
    others_change_nothing formats service at.world q (at.keys 0) (record { reply = reply; world = to.world; cost = cost }) is none
quiet formats service at to reply cost (no_memory cut e w k few) none = w

-- messages were handled, and whichever replies they have are good: so each of these is right
are_right : (formats : List Format) (service : Service) (by : Schema) (replies : List Reply) (cost : ℕ) (at to : At)
    → Turns formats service at replies cost to → AreGood formats service by at replies → AreWithin formats service at.world
    → AreRight formats service by at replies to
are_right formats service by [] cost at to t good within = t.1
are_right formats service by (reply ∷ replies) cost at to t good within =
    let one = good t.0 t.2 t.3 in
    let later = turn_within formats service at t.2 reply t.0 t.3 within in (
      t.0,
      t.2,
      t.3,
      record { good = one.0; quiet = quiet formats service at t.2 reply t.0 t.3; within = later },
      are_right formats service by replies t.1 t.2 to t.4 one.1 later,
    )

-- a run is the answer that its replies make
run_answers : (formats : List Format) (service : Service) (by : Schema) (most : ℕ) (at to : At) (replies : List Reply) (cost : ℕ)
    → Run formats service most at replies cost to → ((all : List Reply) → AreGood formats service by at all) → AreWithin formats service at.world
    → IsAnswer formats service by most at (answer_of service replies) to
run_answers formats service by most at to replies cost run good within = record {
  replies = run.first;
  last = run.last;
  mid = run.mid;
  right = are_right formats service by run.first cost at run.mid run.turns (good run.first) within;
  ends = run.ends;
  bytes = ap (answer_of service) run.all;
}

-- ---- links

-- what an empty link holds is what was appended
holds : (now : Option (List ℕ)) (bytes : List ℕ) → Appends (Some []) now bytes → now ≡ Some bytes
holds None bytes a = absurd a
holds (Some held) bytes a = ap Some a

-- of a fault its count tells
counted : (fact : Type 0) (count : ℕ) → Shows fact 0 count → fact → 0 < count
counted fact count shows is = let rose = shows.only is in omega (arith, rose)

none_handled : (formats : List Format) (service : Service) (replies : List Reply) (cost : ℕ) (at to : At) (now : Option (List ℕ))
    → Turns formats service at replies cost to → length replies < 1 → Appends (Some []) now (answer_of service replies) → (to ≡ at) × (now ≡ Some [])
none_handled formats service [] cost at to now t few a = (t.1, holds now [] a)
none_handled formats service (reply ∷ replies) cost at to now t few a = absurd (omega (arith, few))

-- the last reply stands in a first part behind the others
broken_is : (service : Service) (now : Option (List ℕ)) (replies : List Reply) (b : IsBroken service (Some []) now replies)
    → (answer_of service b.earlier ++ b.front) ++ b.back ≡ answer_of service replies
broken_is service now replies b =
    append_assoc (answer_of service b.earlier) b.front b.back
    ∙ ap (λ l. answer_of service b.earlier ++ l) (b.part ∙ sym (append-nil (bytes_by service b.last)))
    ∙ sym (answer_then service b.earlier (b.last ∷ [])) ∙ ap (answer_of service) (sym b.all)

one_reply : (replies earlier : List Reply) (last : Reply) → replies ≡ earlier ++ last ∷ [] → length replies ≤ 1 → length replies ≡ 1
one_reply replies earlier last all few = omega (arith, few, ap length all, length-append earlier (last ∷ []))

-- by its end
link_ended : (ruled : Ruled) (from to : Between) (bytes rest taken : List ℕ) (back : Returned) (cost : ℕ) (end : StreamEnd)
    → Course ruled.formats ruled.service 1 (begins from bytes) (begins to rest) (Some []) back.written taken cost end
    → ((all : List Reply) → AreGood ruled.formats ruled.service ruled.schema (begins from bytes) all)
    → AreWithin ruled.formats ruled.service from.world
    → Shows (end ≡ ends.ReadFault) 0 back.read_faults → Shows (end ≡ ends.WriteFault) 0 back.write_faults
    → IsAnswered ruled.formats ruled.service ruled.schema (begins from bytes) back (begins to rest)
link_ended ruled from to bytes rest taken back cost (ends.Ended count) c good within read write =
    whole (answer_of ruled.service c.0) (run_answers ruled.formats ruled.service ruled.schema 1 _ _ c.0 cost c.1 good within) (holds back.written _ c.2)
link_ended ruled from to bytes rest taken back cost ends.ReadFault c good within read write =
    let none = none_handled ruled.formats ruled.service c.0 cost (begins from bytes) (begins to rest) back.written c.1 c.2 c.3 in
    unread none.0 none.1 (counted (ends.ReadFault ≡ ends.ReadFault) back.read_faults read refl)
link_ended ruled from to bytes rest taken back cost ends.WriteFault c good within read write =
    let b = c.3 in
    let one = one_reply c.0 b.earlier b.last b.all c.2 in
    let run = subst (λ n. Run ruled.formats ruled.service n (begins from bytes) c.0 cost (begins to rest)) one c.1 in
    broken (answer_of ruled.service c.0) (answer_of ruled.service b.earlier ++ b.front) b.back
    (run_answers ruled.formats ruled.service ruled.schema 1 (begins from bytes) (begins to rest) c.0 cost run good within)
    (broken_is ruled.service back.written c.0 b) (holds back.written _ b.holds)
    (counted (ends.WriteFault ≡ ends.WriteFault) back.write_faults write refl)

links_answered : (ruled : Ruled) (from to : Between) (links rest : List (List ℕ)) (backs : List Returned) → AreServed ruled from links backs to rest
    → AreWithin ruled.formats ruled.service from.world
    → AreAnswered ruled.formats ruled.service ruled.schema from.world from.keys links backs rest
links_answered ruled from to links rest [] s within = s.1
links_answered ruled from to links rest (back ∷ backs) s within =
    let one = s.4 in
    let stream = one.streamed in (
      s.0,
      s.1,
      begins s.2 stream.rest,
      s.3,
      link_ended ruled from s.2 s.0 stream.rest stream.taken back stream.cost one.end stream.course stream.pages within one.read_fault one.write_fault,
      links_answered ruled s.2 to s.1 rest backs s.5 stream.within,
    )

-- ---- the service

rules_given : (disk : Disk) (named : Option (List ℕ)) (by : Schema) → (schema disk named).gives by
    → (rules : List ℕ) × (rules_text disk named ≡ Some rules) × ReadsSchema rules by.root by.elements
rules_given disk None by g = (_, refl, g)
rules_given disk (Some name) by g = (g.0, g.1, g.2)

is_typed : (content : List ℕ) (service : Service) → Reads content service → IsWellTyped service → IsTypedService service
is_typed content service r w = typed service (readable_is_woven service ∣ (content, r) ∣₁) w

-- the formats that are named
formats_given : (disk : Disk) (form : Option (List ℕ)) (given : List Format) → (formats disk form).gives given → AreFormatsOf disk form given
formats_given disk None given g = g
formats_given disk (Some name) given g = (g.0, g.1, g.2)

formats_of : (disk : Disk) (name : List ℕ) (judging : Judging) (form : Option (List ℕ)) (ruled : Ruled)
    → (accepted_file disk name judging form).gives ruled → AreFormatsOf disk form ruled.formats
formats_of disk name judging form ruled g =
    subst (AreFormatsOf disk form) (sym (ap (λ (r : Ruled). r.formats) g.2.2.2.0)) (formats_given disk form g.2.2.0 g.2.2.1)

service_of : (disk : Disk) (name : List ℕ) (judging : Judging) (form : Option (List ℕ)) (ruled : Ruled)
    → (accepted_file disk name judging form).gives ruled → IsServiceOf disk name judging.schema ruled.service ruled.schema
service_of disk name judging form ruled g =
    let content = g.1.1.0 in
    let tree = g.1.0 in
    let service : tree ≡ ruled.service = sym g.1.2.0 ∙ sym (ap (λ (r : Ruled). r.service) g.2.2.2.0) in
    let by : g.2.0 ≡ ruled.schema = sym (ap (λ (r : Ruled). r.schema) g.2.2.2.0) in
    let rules = rules_given disk judging.schema g.2.0 g.2.1 in
    record {
      content = content;
      found = g.1.1.1;
      reads = subst (Reads content) service g.1.1.2;
      typed = subst IsTypedService service (is_typed content tree g.1.1.2 g.1.2.1);
      rules = rules.0;
      rules_are = rules.1;
      is_schema = subst (λ (s : Schema). ReadsSchema rules.0 s.root s.elements) by rules.2;
    }

-- ---- the program

same_command : (a b : Command) → Some a ≡ Some b → a ≡ b
same_command a b e = cc

-- the work is that of the command
work_of : (words : List (List ℕ)) (disk : Disk) (c : Command) (w : Work) → command_of words ≡ Some c → (asked words disk).gives w → (work disk c).gives w
work_of words disk c w is g =
    let same : g.0 ≡ c = same_command g.0 c (sym g.1 ∙ is) in subst (λ k. (work disk k).gives w) same g.2

-- a stream that was done was answered whole
stream_answered : (ruled : Ruled) (most : ℕ) (from to : Between) (bytes : List ℕ) (held now left : Option (List ℕ)) (end : StreamEnd)
    → IsStreamed most ruled from bytes to held now left end → AreWithin ruled.formats ruled.service from.world → status_of end ≡ status.Done
    → (answer : List ℕ) × (last : At) × IsAnswer ruled.formats ruled.service ruled.schema most (begins from bytes) answer last
    × Appends held now answer
stream_answered ruled most from to bytes held now left (ends.Ended count) s within is =
    let c = s.course in
    (answer_of ruled.service c.0, begins to s.rest, run_answers ruled.formats ruled.service ruled.schema most _ _ c.0 s.cost c.1 s.pages within, c.2)
stream_answered ruled most from to bytes held now left ends.ReadFault s within is = absurd (let e : status.ReadFault ≡ status.Done = is in cc)
stream_answered ruled most from to bytes held now left ends.WriteFault s within is = absurd (let e : status.WriteFault ≡ status.Done = is in cc)

ended_with : (count : ℕ) → ends.Ended count ≡ ends.Ended 0 → count ≡ 0
ended_with count e = cc

same_text : (a b : List ℕ) → Some a ≡ Some b → a ≡ b
same_text a b e = cc

-- and where none of its replies is that there was no memory, none of those of the answer is
all_handled : (ruled : Ruled) (most : ℕ) (from to : Between) (bytes : List ℕ) (held now left : Option (List ℕ)) (end : StreamEnd)
    → IsStreamed most ruled from bytes to held now left end → AreWithin ruled.formats ruled.service from.world → end ≡ ends.Ended 0
    → (answer : List ℕ) × (last : At) × (handled : IsAnswer ruled.formats ruled.service ruled.schema most (begins from bytes) answer last)
    × (wants (handled.replies ++ handled.last) ≡ 0) × (last.world ≡ to.world)
all_handled ruled most from to bytes held now left (ends.Ended count) s within is =
    let c = s.course in
    let run = c.1 in (
      answer_of ruled.service c.0,
      begins to s.rest,
      record {
        replies = run.first;
        last = run.last;
        mid = run.mid;
        right = are_right ruled.formats ruled.service ruled.schema run.first s.cost (begins from bytes) run.mid run.turns (s.pages run.first) within;
        ends = run.ends;
        bytes = ap (answer_of ruled.service) run.all;
      },
      ap wants (sym run.all) ∙ sym c.3 ∙ ended_with count is,
      refl,
    )
all_handled ruled most from to bytes held now left ends.ReadFault s within is = absurd (let e : ends.ReadFault ≡ ends.Ended 0 = is in cc)
all_handled ruled most from to bytes held now left ends.WriteFault s within is = absurd (let e : ends.WriteFault ≡ ends.Ended 0 = is in cc)

replay_done : (disk : Disk) (name requests : List ℕ) (judging : Judging) (form load : Option (List ℕ)) (most : ℕ) (w : Work) (before after : Outside)
    (s : Status) → (work disk (Replay name requests judging form load most)).gives w → IsDone w before after s → s ≡ status.Done
    → IsReplay disk name requests judging.schema form load most before after
replay_done disk name requests judging form load most w before after s g d is =
    let ruled = g.0 in
    let from = g.2.0 in
    let stream = g.2.2.0 in
    let replayed : IsReplayed ruled from stream most before after s = (subst (λ x. IsDone x before after s) g.2.2.2 d).0 in
    let whose = service_of disk name judging form ruled g.1 in
    record {
      service = ruled.service;
      schema = ruled.schema;
      formats = ruled.formats;
      formats_are = formats_of disk name judging form ruled g.1;
      is = whose;
      start = from;
      starts = starts_at disk name load whose.content ruled.service from whose.found whose.reads g.2.1;
      stream = stream;
      found = g.2.2.1;
      answered = λ keys k.
          let x = replayed.streamed keys k in
          stream_answered ruled most (record { world = from; keys = keys; steps = before.steps }) x.0 stream before.printed after.printed
          after.unread replayed.end x.3 (start_within disk name load ruled.formats ruled.service from g.2.1) (sym replayed.status_is ∙ is);
    }

freeze_done : (disk : Disk) (name requests : List ℕ) (judging : Judging) (form load : Option (List ℕ)) (most : ℕ) (w : Work) (before after : Outside)
    (s : Status) → (work disk (Freeze name requests judging form load most)).gives w → IsDone w before after s → s ≡ status.Done
    → IsFreeze disk name requests judging.schema form load most before after
freeze_done disk name requests judging form load most w before after s g d is =
    let ruled = g.0 in
    let from = g.2.0 in
    let text = g.2.2.0 in
    let stream = g.2.2.2.0 in
    let frozen : IsFreezing ruled from text stream most before after s = (subst (λ x. IsDone x before after s) g.2.2.2.2 d).0 in
    let whose = service_of disk name judging form ruled g.1 in
    let same : text ≡ whose.content = same_text text whose.content (sym g.2.2.1 ∙ whose.found) in
    record {
      service = ruled.service;
      schema = ruled.schema;
      formats = ruled.formats;
      formats_are = formats_of disk name judging form ruled g.1;
      is = whose;
      start = from;
      starts = starts_at disk name load whose.content ruled.service from whose.found whose.reads g.2.1;
      stream = stream;
      found = g.2.2.2.1;
      answered = λ keys k.
          let x = frozen.streamed keys k in
          let printed = frozen_done text frozen.seen frozen.end before.printed after.printed s frozen.freezes is in
          let c = all_handled ruled most (record { world = from; keys = keys; steps = before.steps }) x.0 stream None None after.unread frozen.end x.4
          (start_within disk name load ruled.formats ruled.service from g.2.1) printed.0 in (
            c.0,
            c.1,
            c.2,
            c.3,
            frozen.seen,
            frozen.service,
            subst (StandsFor frozen.seen) (sym c.4) x.3,
            subst (λ t. Appends before.printed after.printed (file_of t frozen.seen)) same printed.1,
          );
    }

no_link : (ruled : Ruled) (world : World) (most : ℕ) (before after : Outside) (s : Status) → s ≡ status.DoorFault → after.coming ≡ before.coming
    → after.returned ≡ before.returned → (keys : Coming) → before.keys ≡ Some keys → (links : List (List ℕ)) → before.coming ≡ Some links
    → (given : List Returned) → before.returned ≡ Some given → (backs : List Returned) × (rest : List (List ℕ)) × (after.returned ≡ Some (given ++ backs))
    × (after.coming ≡ Some rest) × AreAnswered ruled.formats ruled.service ruled.schema world keys links backs rest
    × (s ≡ status.Done → (rest ≡ []) ⊎ (length backs ≡ most))
no_link ruled world most before after s e c r keys k links l given g =
    ([], links, r ∙ g ∙ ap Some (sym (append-nil given)), c ∙ l, refl, λ is. absurd (let f : status.Done ≡ status.DoorFault = sym is ∙ e in cc))

over_done : {A B : Type 0} (s : Status) → ((s ≡ status.Done) × A) ⊎ ((s ≡ status.DoorFault) × B) → s ≡ status.Done → A
over_done s (inl x) is = x.1
over_done s (inr x) is = absurd (let f : status.Done ≡ status.DoorFault = sym is ∙ x.0 in cc)

no_write : (s : Status) → s ≡ status.WriteFault → (s ≡ status.Done) ⊎ (s ≡ status.DoorFault) → ⊥
no_write s e (inl f) = let g : status.Done ≡ status.WriteFault = sym f ∙ e in cc
no_write s e (inr f) = let g : status.DoorFault ≡ status.WriteFault = sym f ∙ e in cc

serving_answers : (disk : Disk) (name : List ℕ) (named form load : Option (List ℕ)) (ruled : Ruled) (from : World) (port most : ℕ)
    (before after : Outside) (s : Status) → (whose : IsServiceOf disk name named ruled.service ruled.schema) → AreFormatsOf disk form ruled.formats
    → (start disk name load ruled.service).gives from → IsServing ruled from port most before after s → (s ≡ status.Done) ⊎ (s ≡ status.DoorFault)
    → IsServe disk name named form load most before after s
serving_answers disk name named form load ruled from port most before after s whose are g (no_port e m k) ends = record {
  service = ruled.service;
  schema = ruled.schema;
  formats = ruled.formats;
  formats_are = are;
  is = whose;
  start = from;
  starts = starts_at disk name load whose.content ruled.service from whose.found whose.reads g;
  answered = no_link ruled from most before after s e (ap (λ (o : Outside). o.coming) k) (ap (λ (o : Outside). o.returned) k);
}
serving_answers disk name named form load ruled from port most before after s whose are g (no_line e a p k) ends = absurd (no_write s e ends)
serving_answers disk name named form load ruled from port most before after s whose are g (links_served e a line all) ends = record {
  service = ruled.service;
  schema = ruled.schema;
  formats = ruled.formats;
  formats_are = are;
  is = whose;
  start = from;
  starts = starts_at disk name load whose.content ruled.service from whose.found whose.reads g;
  answered = λ keys k links l given r.
      let x = all keys k links l given r in
      let back = x.3 in (
        x.0,
        x.1,
        back.returned,
        back.coming,
        links_answered ruled (record { world = from; keys = keys; steps = before.steps }) x.2 links x.1 x.0 back.served
            (start_within disk name load ruled.formats ruled.service from g),
        over_done s x.5,
      );
}

serve_done : (disk : Disk) (name : List ℕ) (judging : Judging) (form load : Option (List ℕ)) (port most : ℕ) (w : Work) (before after : Outside)
    (s : Status) → (work disk (Serve name judging form load port most)).gives w → IsDone w before after s → (s ≡ status.Done) ⊎ (s ≡ status.DoorFault)
    → IsServe disk name judging.schema form load most before after s
serve_done disk name judging form load port most w before after s g d ends =
    let ruled = g.0 in
    let from = g.2.0 in
    let serving : IsServing ruled from port most before after s = (subst (λ x. IsDone x before after s) g.2.2 d).0 in
    serving_answers disk name judging.schema form load ruled from port most before after s (service_of disk name judging form ruled g.1)
    (formats_of disk name judging form ruled g.1) g.2.1 serving ends

light_done : (disk : Disk) (form texts : List ℕ) (w : Work) (before after : Outside) (s : Status) → (work disk (Light form texts)).gives w
    → IsDone w before after s → s ≡ status.Done → IsLit disk form texts before after
light_done disk form texts w before after s g d is =
    let content = g.2.0 in
    let lit = g.2.2 in
    let so : IsSaid (record { status = status.Done; text = lit.0 }) before after s = subst (λ x. IsDone x before after s) lit.3 d in
    record {
      formats = g.0;
      formats_are = (g.1.0, g.1.1, g.1.2);
      content = content;
      found = g.2.1;
      printed = lit.0;
      lights = lit.2;
      appended = elim so.prints [ inl x ↦ x.1 | inr x ↦ absurd (let f : status.Done ≡ status.WriteFault = sym is ∙ x.0 in cc) ];
    }

-- a visit that was done came to its end
visit_ended : (end : End) (s : Status) → IsStatusOf end s → s ≡ status.Done → end ≡ End.Done
visit_ended End.Done s e is = refl
visit_ended (End.Unknown name) s (inl e) is = absurd (let f : status.Done ≡ status.ScriptRefused = sym is ∙ e in cc)
visit_ended (End.Unknown name) s (inr (inl e)) is = absurd (let f : status.Done ≡ status.WriteFault = sym is ∙ e in cc)
visit_ended (End.Unknown name) s (inr (inr e)) is = absurd (let f : status.Done ≡ status.Memory = sym is ∙ e in cc)
visit_ended End.Wanted s e is = absurd (let f : status.Done ≡ status.Memory = sym is ∙ e in cc)
visit_ended End.Broken s e is = absurd (let f : status.Done ≡ status.WriteFault = sym is ∙ e in cc)

visit_done : (disk : Disk) (name by : List ℕ) (judging : Judging) (form : Option (List ℕ)) (w : Work) (before after : Outside) (s : Status)
    → (work disk (Visit name by judging form)).gives w → IsDone w before after s → s ≡ status.Done → IsVisit disk name by judging.schema form before after
visit_done disk name by judging form w before after s g d is =
    let ruled = g.0 in
    let script : Script = g.2.2.0 in
    let visit : IsVisited ruled script before after s = (subst (λ x. IsDone x before after s) g.2.2.2 d).0 in
    record {
      service = ruled.service;
      schema = ruled.schema;
      formats = ruled.formats;
      formats_are = formats_of disk name judging form ruled g.1;
      is = service_of disk name judging form ruled g.1;
      content = g.2.0;
      found = g.2.1;
      start = script.name;
      answers = script.lines;
      is_script = g.2.2.1;
      answered = λ keys k.
          let v = subst (λ (end : End). HasVisited ruled script (record { world = empty ruled.service; keys = keys; steps = before.steps }) before.printed
          after.printed after.keys after.steps end s) (visit_ended visit.end s visit.status_is is) (visit.visited keys k) in
          (v.to, v.replies, v.visits, v.taken, v.prints);
    }

-- neither what is said nor a read fault nor want of memory is this status
no_other : (words : List (List ℕ)) (disk : Disk) (before after : Outside) (s : Status) → Comes (asked words disk) before after s
    → (s ≡ status.Done) ⊎ (s ≡ status.DoorFault) → (w : Work) × (asked words disk).gives w × IsDone w before after s
no_other words disk before after s (said x p i) (inl e) =
    absurd (elim i.prints [
      | inl y ↦ never_said words disk x status.Done refl p (sym e ∙ y.0)
      | inr y ↦ let g : status.Done ≡ status.WriteFault = sym e ∙ y.0 in cc
    ])
no_other words disk before after s (said x p i) (inr e) =
    absurd (elim i.prints [
      | inl y ↦ never_said words disk x status.DoorFault refl p (sym e ∙ y.0)
      | inr y ↦ let g : status.DoorFault ≡ status.WriteFault = sym e ∙ y.0 in cc
    ])
no_other words disk before after s (done w p d) ends = (w, p, d)
no_other words disk before after s (read_fault f k) (inl e) = absurd (let g : status.Done ≡ status.ReadFault = sym e ∙ f in cc)
no_other words disk before after s (read_fault f k) (inr e) = absurd (let g : status.DoorFault ≡ status.ReadFault = sym e ∙ f in cc)
no_other words disk before after s (no_room f k) (inl e) = absurd (let g : status.Done ≡ status.Memory = sym e ∙ f in cc)
no_other words disk before after s (no_room f k) (inr e) = absurd (let g : status.DoorFault ≡ status.Memory = sym e ∙ f in cc)

pub headline : (words : List (List ℕ)) (disk : Disk) (before after : Outside) (s : Status) → Comes (asked words disk) before after s
    → Headline words disk before after s
headline words disk before after s c = record {
  replay = λ name requests judging form load most is e.
      let x = no_other words disk before after s c (inl e) in
      replay_done disk name requests judging form load most x.0 before after s
      (work_of words disk (Replay name requests judging form load most) x.0 is x.1) x.2 e;
  serve = λ name judging form load port most is ends.
      let x = no_other words disk before after s c ends in
      serve_done disk name judging form load port most x.0 before after s
      (work_of words disk (Serve name judging form load port most) x.0 is x.1) x.2 ends;
  light = λ form texts is e.
      let x = no_other words disk before after s c (inl e) in
      light_done disk form texts x.0 before after s (work_of words disk (Light form texts) x.0 is x.1) x.2 e;
  freeze = λ name requests judging form load most is e.
      let x = no_other words disk before after s c (inl e) in
      freeze_done disk name requests judging form load most x.0 before after s
      (work_of words disk (Freeze name requests judging form load most) x.0 is x.1) x.2 e;
  visit = λ name by judging form is e.
      let x = no_other words disk before after s c (inl e) in
      visit_done disk name by judging form x.0 before after s (work_of words disk (Visit name by judging form) x.0 is x.1) x.2 e;
}

-- where the files tell
pub headline_told : (told : Option Disk) (words : List (List ℕ)) (before after : Outside) (s : Status)
    → IfSome told (λ disk. Comes (asked words disk) before after s) → IfSome told (λ disk. Headline words disk before after s)
headline_told None words before after s c = tt
headline_told (Some disk) words before after s c = headline words disk before after s c
