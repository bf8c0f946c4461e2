-- Scripts that are followed: what comes of the code's visit.
use Rattle.std.specs.Io.KnownBytes.{Appends}
use Rattle.std.specs.List.{AllByRecursion}
use Rattle.std.proofs.Common.{◌≡◌, ℕ, false, List, Option, None, Some, IfSome, refl, sym, ap, ◌∙◌, subst, inl, inr, length, take, arith}
use Rattle.std.proofs.lemmas.Bool.{cases_lt}
use Rattle.bw_check.specs.Accepts.{Accepts}
use Rattle.bw_format.specs.declared.format.Format.{Format}
use Rattle.bw_http.specs.Paths.{IsForm, spelling}
use Rattle.bw_http.specs.declared.replies.Reply.{Reply}
use Rattle.bw_http.specs.declared.request.Path.TheVariants.{Start}
use Rattle.bw_lang.specs.declared.service.Service.{Service}
use Rattle.bw_model.specs.Runs.{answer_of}
use Rattle.bw_model.specs.Sessions.{empty}
use Rattle.bw_out.specs.Told.{AreWords, Coming, Disk}
use Rattle.bw_schema.specs.declared.schema.Schema.{Schema}
use Rattle.bw_sound.specs.Worlds.{BeginsSound, IsSoundWorld}
use Rattle.bw_types.specs.declared.typed.Typed.{Typed}
use Rattle.bw_user.specs.Messages.{get}
use Rattle.bw_visit.specs.Ends.{IsVisited, Prints, StandsAt, Visited, end_of}
use Rattle.bw_visit.specs.Exchanges.{IsBetween, Standing}
use Rattle.bw_visit.specs.Scripts.{IsScript, IsNoScript}
use Rattle.bw_visit.specs.Visits.{End, Visits, is_amiss}
use Rattle.bw_visit.specs.declared.script.Script.{Script as CodeScript}
use Rattle.bw_visit.specs.declared.visiting.VisitEnd.{VisitEnd}
use Rattle.bw_visit.specs.declared.visiting.VisitEnd.TheVariants as code
use Rattle.bw_visit.proofs.Visited.{visits_are_taken}
use Rattle.bw_world.specs.Stands.{StandsFor}
use Rattle.bw_world.specs.Streams.Courses.{IsBroken, Between}
use Rattle.bw_questions.specs.Asked.{Ruled, file}
use Rattle.bigwig.specs.Asked.{followed, visited}
use Rattle.bw_questions.specs.Asked.Work.{visits}
use Rattle.bw_questions.specs.Checks.{IsRuled}
use Rattle.bigwig.specs.Outcomes.{Comes, Replies}
use Rattle.bigwig.specs.Outcomes.Comes.{said, done, read_fault, no_memory}
use Rattle.bw_command.specs.Codes.{status_for}
use Rattle.bw_questions.specs.Questions.{IsStop, found, line}
use Rattle.bw_questions.specs.Reports.{IsReported, SaysLine}
use Rattle.bigwig.specs.Scripts.{no_script_line, script, unknown_line}
use Rattle.bigwig.specs.Visiting.{AreSpent, IsStatusOf, PrintsVisit, SaysUnknown, TellsEnd, script_of}
use Rattle.bigwig.specs.Works.{Outside}
use Rattle.bw_questions.specs.Reports.{Prints as PrintsText}
use Rattle.bw_command.specs.declared.status.Refusal.TheVariants as refusals
use Rattle.bw_command.specs.declared.status.Status.{Status}
use Rattle.bw_command.specs.declared.status.Status.TheVariants as status
use Rattle.bw_questions.specs.declared.stop.Stop.{Stop}
use Rattle.bw_questions.specs.declared.stop.Stop.TheVariants as stop
use Rattle.bw_questions.proofs.Answering.{stops_first}
use Rattle.bigwig.proofs.Endings.{comes_then, stopped_so}
use Rattle.bw_questions.proofs.Files.{take_all, take_length}
use Rattle.bw_questions.proofs.Stops.{text_stops}

-- ---- the front of a script file tells what all of it is

script_all : (n : ℕ) (content name lines : List ℕ) → n ≡ 1048577 → IsScript (take n content) name lines → IsScript content name lines
script_all n content name lines e s = elim (cases_lt n (length content)) [
  | inr le ↦ subst (λ b. IsScript b name lines) (take_all n content le) s
  | inl gt ↦ (let full = take_length n content gt in absurd (omega (arith, e, full, s.short)))
]

none_all : (n : ℕ) (content : List ℕ) → n ≡ 1048577 → IsNoScript (take n content) → IsNoScript content
none_all n content e none name lines s =
    none name lines (subst (λ b. IsScript b name lines) (sym (take_all n content (omega (arith, e, s.short)))) s)

followed_all : (ruled : Ruled) (n : ℕ) (content : List ℕ) (before after : Outside) (r : Status) → n ≡ 1048577
    → Comes (followed ruled (take n content)) before after r → Comes (followed ruled content) before after r
followed_all ruled n content before after r e (said x (inl p) i) = said x (inl (none_all n content e p.0, p.1)) i
followed_all ruled n content before after r e (said x (inr p) i) = absurd p.2
followed_all ruled n content before after r e (done w p d) = done w (p.0, script_all n content p.0.name p.0.lines e p.1, p.2) d
followed_all ruled n content before after r e (read_fault f k) = read_fault f k
followed_all ruled n content before after r e (no_memory f k) = no_memory f k

-- ---- one question after another

-- the script was read, and then followed
pub script_followed : (ruled : Ruled) (bytes : List ℕ) (s : CodeScript) (held now : Option (List ℕ)) (keys later : Option Coming)
    (unread : Option (List ℕ)) (steps after : ℕ) (r : Status) → IsScript bytes s.name.now s.lines.now
    → Replies (found (visits ruled (script_of s))) held now keys later unread steps after r
    → Replies (followed ruled bytes) held now keys later unread steps after r
script_followed ruled bytes s held now keys later unread steps after r is h = λ o.
    comes_then (script bytes) (λ x. found (visits ruled x)) (script_of s) _ _ r is (h o)

-- the bytes are no script
pub none_followed : (ruled : Ruled) (bytes : List ℕ) (s : Stop) (held now : Option (List ℕ)) (keys : Option Coming) (unread : Option (List ℕ))
    (steps : ℕ) (r : Status) → IsNoScript bytes → SaysLine refusals.Script no_script_line s → IsReported s held now r
    → Replies (followed ruled bytes) held now keys keys unread steps steps r
none_followed ruled bytes s held now keys unread steps r none says p =
    let stops = text_stops (script bytes) refusals.Script (line no_script_line) s says (none, refl) in λ o.
    stopped_so (followed ruled bytes) s held now r (stops_first (script bytes) (λ x. found (visits ruled x)) s stops) p
    (record o { keys = keys; steps = steps }) unread

-- there was no memory for a server
pub nothing_followed : (service : Service) (formats : List Format) (s : CodeScript) (held : Option (List ℕ)) (keys : Option Coming) (steps : ℕ)
    → (ruled : Ruled) (unread : Option (List ℕ)) → IsRuled service formats ruled
    → Replies (found (visits ruled (script_of s))) held held keys keys unread steps steps status.Memory
nothing_followed service formats s held keys steps ruled unread is = λ o. no_memory refl refl

-- the service and the formats are those that the server was made with
pub same_server : (P : Ruled → Option (List ℕ) → Type 0) (service seen : Service) (formats kept : List Format) → seen ≡ service → kept ≡ formats
    → ((ruled : Ruled) (unread : Option (List ℕ)) → IsRuled seen kept ruled → P ruled unread)
    → (ruled : Ruled) (unread : Option (List ℕ)) → IsRuled service formats ruled → P ruled unread
same_server P service seen formats kept e f h =
    subst (λ k. (ruled : Ruled) (unread : Option (List ℕ)) → IsRuled service k ruled → P ruled unread) f
    (subst (λ s. (ruled : Ruled) (unread : Option (List ℕ)) → IsRuled s kept ruled → P ruled unread) e h)

-- the script file was found, and then followed
pub file_followed : (told : Option Disk) (service : Service) (formats : List Format) (name bytes given : List ℕ) (n : ℕ) (held now : Option (List ℕ))
    (keys later : Option Coming) (unread : Option (List ℕ)) (steps after : ℕ) (r : Status) → n ≡ 1048577
    → IfSome told (λ d. (content : List ℕ) × (d name ≡ Some content) × (bytes ≡ take n content)) → given ≡ bytes
    → ((ruled : Ruled) (u : Option (List ℕ)) → IsRuled service formats ruled → Replies (followed ruled given) held now keys later u steps after r)
    → IfSome told (λ d. (ruled : Ruled) → IsRuled service formats ruled → Replies (visited d name ruled) held now keys later unread steps after r)
file_followed None service formats name bytes given n held now keys later unread steps after r e there same h = tt
file_followed (Some d) service formats name bytes given n held now keys later unread steps after r e there same h = λ ruled is o.
    let front = subst (λ b. Replies (followed ruled b) held now keys later unread steps after r) (same ∙ there.2) (h ruled unread is) in
    comes_then (file d name) (followed ruled) there.0 _ _ r there.1 (followed_all ruled n there.0 _ _ r e (front o))

-- the script file isn't there, or couldn't be read
pub file_stopped : (told : Option Disk) (service : Service) (formats : List Format) (name : List ℕ) (s : Stop) (held now : Option (List ℕ))
    (keys : Option Coming) (unread : Option (List ℕ)) (steps : ℕ) (r : Status) → IfSome told (λ d. IsStop (file d name) s) → IsReported s held now r
    → IfSome told (λ d. (ruled : Ruled) → IsRuled service formats ruled → Replies (visited d name ruled) held now keys keys unread steps steps r)
file_stopped None service formats name s held now keys unread steps r i p = tt
file_stopped (Some d) service formats name s held now keys unread steps r i p = λ ruled is o.
    stopped_so (visited d name ruled) s held now r (stops_first (file d name) (followed ruled) s i) p (record o { keys = keys; steps = steps }) unread

-- ---- the visit

-- the line of an answer without a control was printed, or there was no memory for it
pub unknown_told : (name : List ℕ) (s : Stop) (held now : Option (List ℕ)) (r : Status) → SaysLine refusals.Script (unknown_line name) s
    → IsReported s held now r → SaysUnknown name held now r
unknown_told name (stop.Says refusal text) held now r h p =
    inl (subst (λ (t : List ℕ). PrintsText (record { status = status.ScriptRefused; text = t }) held now r) h.1
    (subst (λ (x : Status). PrintsText (record { status = x; text = text.items }) held now r) (ap status_for h.0) p))
unknown_told name stop.ReadFault held now r h p = absurd h
unknown_told name stop.Memory held now r h p = inr p

-- what the end makes of the status, of what is printed, and of the keys and the steps
status_told : (end : End) (mid now : Option (List ℕ)) (r : Status) → TellsEnd end mid now r → IsStatusOf end r
status_told End.Done mid now r t = t.0
status_told (End.Unknown name) mid now r (inl p) = elim p [ inl x ↦ inl x.0 | inr x ↦ inr (inl x.0) ]
status_told (End.Unknown name) mid now r (inr m) = inr (inr m.0)
status_told End.Wanted mid now r t = t.0
status_told End.Broken mid now r t = t.0

prints_told : (service : Service) (replies : List Reply) (held mid now : Option (List ℕ)) (end : VisitEnd) (r : Status)
    → Prints service held mid replies end → TellsEnd (end_of end) mid now r → PrintsVisit service replies held now r (end_of end)
prints_told service replies held mid now code.Done r p t = subst (λ x. Appends held x (answer_of service replies)) (sym t.1) p
prints_told service replies held mid now (code.Unknown name) r p t = (mid, p, t)
prints_told service replies held mid now code.WriteFault r p t = subst (λ x. IsBroken service held x replies) (sym t.1) p
prints_told service replies held mid now code.Memory r p t = subst (λ x. Appends held x (answer_of service replies)) (sym t.1) p

spent_told : (new : Standing) (to : Between) (end : VisitEnd) → StandsAt new to end → AreSpent to new.keys new.steps (end_of end)
spent_told new to code.Done b = (b.keys, b.steps)
spent_told new to (code.Unknown name) b = (b.keys, b.steps)
spent_told new to code.WriteFault b = (b.keys, b.steps)
spent_told new to code.Memory b = tt

-- in a service that is well typed no reply is amiss
taken_by : (formats : List Format) (service : Service) (schema : Schema) (t : Typed) → t.service ≡ service → Accepts service schema → (from to : Between)
    (name lines : List ℕ) (replies : List Reply) (end : End) → IsForm (Start name) → from.world ≡ empty service → AreWords (Some from.keys)
    → Visits formats service from (get (spelling (Start name))) lines replies to end → AllByRecursion (λ (r : Reply). is_amiss r ≡ false) replies
taken_by formats service schema t is ok from to name lines replies end form start words v =
    visits_are_taken formats t schema (subst (λ s. Accepts s schema) (sym is) ok) from to name lines replies end form (start ∙ ap empty (sym is)) words
    (subst (λ s. Visits formats s from (get (spelling (Start name))) lines replies to end) (sym is) v)

-- the code's visit from the world in which nothing was requested yet, and what was printed behind it
pub visit_follows : (ruled : Ruled) (s : CodeScript) (old new : Standing) (held mid now : Option (List ℕ)) (end : VisitEnd) (r : Status)
    (unread : Option (List ℕ)) → IsRuled old.seen.service old.formats ruled → IsForm (Start s.name.now) → StandsFor old.seen (empty old.seen.service)
    → BeginsSound old.seen.service → AreWords old.keys → Visited (get (spelling (Start s.name.now))) s.lines.now old new held mid end
    → TellsEnd (end_of end) mid now r → Replies (found (visits ruled (script_of s))) held now old.keys new.keys unread old.steps new.steps r
visit_follows ruled s old new held mid now end r unread is form stands sound words visited tells = λ o.
    done (visits ruled (script_of s)) refl (
      record {
        end = end_of end;
        status_is = status_told (end_of end) mid now r tells;
        visited = λ keys k.
            let from : Between = record { world = empty ruled.service; keys = keys; steps = old.steps } in
            let here : IsBetween old from = record { world = subst (λ x. StandsFor old.seen (empty x)) (sym is.0) stands; keys = k; steps = refl } in
            let message = get (spelling (Start s.name.now)) in
            let v : IsVisited ruled.formats ruled.service from message s.lines.now new held mid end
            = subst (λ f. IsVisited f ruled.service from message s.lines.now new held mid end) (sym is.2)
            (subst (λ (x : Service). IsVisited old.formats x from message s.lines.now new held mid end) (sym is.0) (visited from here)) in
            let whole : IsSoundWorld ruled.service (record (empty ruled.service) { next = 1; first = 1 })
            = subst BeginsSound (sym is.0) sound ruled.schema 1 1 is.1 in
            record {
              to = v.to;
              replies = v.replies;
              visits = v.visits;
              taken = taken_by ruled.formats ruled.service ruled.schema whole.typed whole.is is.1 from v.to s.name.now s.lines.now v.replies (end_of end)
                  form refl (subst AreWords k words) v.visits;
              prints = prints_told ruled.service v.replies held mid now end r v.prints tells;
              spent = spent_told new v.to end v.stands;
            };
        kept = (refl, refl, refl);
      },
      refl,
    )

-- the same where the keys and the steps that are lent stand so at the end
pub visit_follows_to : (ruled : Ruled) (s : CodeScript) (old new : Standing) (held mid now : Option (List ℕ)) (end : VisitEnd) (r : Status)
    (unread : Option (List ℕ)) (keys : Option Coming) (steps : ℕ) → IsRuled old.seen.service old.formats ruled → IsForm (Start s.name.now)
    → StandsFor old.seen (empty old.seen.service) → BeginsSound old.seen.service → AreWords old.keys
    → Visited (get (spelling (Start s.name.now))) s.lines.now old new held mid end → TellsEnd (end_of end) mid now r → keys ≡ new.keys → steps ≡ new.steps
    → Replies (found (visits ruled (script_of s))) held now old.keys keys unread old.steps steps r
visit_follows_to ruled s old new held mid now end r unread keys steps is form stands sound words visited tells same_keys same_steps =
    subst (λ k. Replies (found (visits ruled (script_of s))) held now old.keys k unread old.steps steps r) (sym same_keys)
    (subst (λ n. Replies (found (visits ruled (script_of s))) held now old.keys new.keys unread old.steps n r) (sym same_steps)
    (visit_follows ruled s old new held mid now end r unread is form stands sound words visited tells))
