-- A scripted user is never told that a field is missing.
use Rattle.std.proofs.Common.{◌≡◌, ◌<◌, ◌^◌, ◌⊎◌, inl, inr, ◌≤◌, decimal, codes, ℕ, suc, false, List, [], ◌∷◌, ◌++◌, length}
use Rattle.std.proofs.Common.{Option, Some, None, refl, sym, ap, ◌∙◌, subst, arith, Ok, Err}
use Rattle.std.specs.List.{AllByRecursion}
use Rattle.std.specs.Option.{option_map}
use Rattle.std.proofs.lemmas.List.{length-append}
use Rattle.bw_agent.proofs.PageForms.{joined_form, form_joined}
use Rattle.bw_agent.specs.Fills.{fills, fills_form, OfPage}
use Rattle.bw_agent.specs.Forms.{form_in}
use Rattle.bw_agent.specs.declared.page.AgentFault.TheVariants as faults
use Rattle.bw_agent.specs.declared.page.Filled.{Filled}
use Rattle.bw_check.specs.Accepts.{Accepts}
use Rattle.bw_format.specs.declared.format.Format.{Format}
use Rattle.bw_http.proofs.Lossy.{cuts_are_text}
use Rattle.bw_http.specs.Cuts.{Cut}
use Rattle.bw_http.specs.Forms.{form_of}
use Rattle.bw_http.specs.Paths.{IsForm, spelling}
use Rattle.bw_http.specs.declared.replies.Reply.{Reply}
use Rattle.bw_http.specs.declared.replies.Reply.TheVariants as replies
use Rattle.bw_http.specs.declared.request.Path.TheVariants.{Start}
use Rattle.bw_http.specs.declared.request.ReadOutcome.{ReadOutcome}
use Rattle.bw_http.specs.declared.request.ReadOutcome.TheVariants as outcomes
use Rattle.bw_http.specs.declared.request.Request.{Request}
use Rattle.bw_lang.specs.Document.Forest.{Forest}
use Rattle.bw_lang.specs.Document.Print.{joined}
use Rattle.bw_lang.specs.Service.Submissions.{IsTextForm}
use Rattle.bw_lang.specs.Table.Names.{with_names}
use Rattle.bw_lang.specs.declared.service.Service.{Service}
use Rattle.bw_meaning.specs.States.{Form}
use Rattle.bw_model.proofs.Kept.{empty_is_world, steps_keep_worlds}
use Rattle.bw_model.specs.Answers.{answered}
use Rattle.bw_model.specs.Guards.{IsGuarded, guarded_by}
use Rattle.bw_model.specs.Laws.{IsWorld}
use Rattle.bw_model.specs.Reached.{none}
use Rattle.bw_model.specs.Runs.{At, Turn, request, no_memory, Turns, refusal, Stops, refused, ended}
use Rattle.bw_model.specs.Sessions.{World, empty}
use Rattle.bw_model.specs.Steps.{Step, step}
use Rattle.bw_page.specs.Pages.{exit_page}
use Rattle.bw_out.specs.Told.{Coming, later_words}
use Rattle.bw_read.specs.Pages.{IsPage}
use Rattle.bw_schema.specs.declared.schema.Schema.{Schema}
use Rattle.bw_sound.proofs.Runs.{empty_is_sound, steps_keep_sound, pages_are_good}
use Rattle.bw_sound.specs.Good.{IsGoodShow, IsGoodEnd, IsGood}
use Rattle.bw_sound.specs.Worlds.{IsSoundWorld}
use Rattle.bw_types.specs.Fields.{field_names}
use Rattle.bw_types.specs.Scopes.{session_of}
use Rattle.bw_types.specs.declared.typed.Typed.{Typed}
use Rattle.bw_user.proofs.Read.{answers_are_text, gets_are_read}
use Rattle.bw_user.specs.Messages.{get, post, body_in}
use Rattle.bw_visit.proofs.Bodies.{page_found, last_found, no_page}
use Rattle.bw_waiting.proofs.KindsKept.{kinds_stay}
use Rattle.bw_visit.proofs.LastPages.{last_pages_have_no_form}
use Rattle.bw_waiting.proofs.NumbersKept.{numbers_stay}
use Rattle.bw_visit.proofs.Posted as posted
use Rattle.bw_visit.proofs.Replies.{starts_quiet}
use Rattle.bw_visit.specs.Laws.{VisitsAreTaken}
use Rattle.bw_visit.specs.Visits.{Exchange, Next, Over, Sends, Asks, Does, no_line, by_line, End, Visits, last, quiet, no_room}
use Rattle.bw_visit.specs.Visits.{broken, more, is_amiss}
use Rattle.bw_waiting.specs.Worlds.{IsKindedWorld, IsNumberedWorld}
use Rattle.bw_world.specs.Streams.Courses.{bytes_by, Between, begins}

post_longer : (target body : List ℕ) → length body ≤ length (post target body)
post_longer target body =
    let digits = decimal (length body) in
    let back = codes "\r\n\r\n" ++ body in
    let fixed = codes " HTTP/1.1\r\nHost: a\r\nContent-Type: application/x-www-form-urlencoded\r\nContent-Length: " in
    omega (
      arith,
      length-append (codes "POST ") (target ++ (fixed ++ (digits ++ back))),
      length-append target (fixed ++ (digits ++ back)),
      length-append fixed (digits ++ back),
      length-append digits back,
      length-append (codes "\r\n\r\n") body,
    )

module _ (formats : List Format) (t : Typed) (schema : Schema) (ok : Accepts t.service schema) where
  abbrev service : Service
  service = t.service

  abbrev KeysFit : Coming → Type 0
  KeysFit keys = (i : ℕ) → keys i < 2 ^ 64

  -- what each world is that a visit comes through
  record IsServed (w : World) : Type 0 where
    sound : IsSoundWorld service w
    kinded : IsKindedWorld service w
    numbered : IsNumberedWorld w
    apart : IsWorld w

  served_next : (w : World) (r : Request) (key : ℕ) → IsServed w → IsTextForm r.form → key < 2 ^ 64 → IsServed (step service w r key).world
  served_next w r key s texts small = record {
    sound = steps_keep_sound service schema w r key ok texts s.sound;
    kinded = (kinds_stay t).1 w r key s.kinded;
    numbered = (numbers_stay service).1 w r key small s.numbered;
    apart = steps_keep_worlds (answered service) service w r key s.apart;
  }

  -- the message is a GET of a session's start, or a page that was shown and is filled in
  data Due (w : World) (message : List ℕ) : Type 0 where
    begins_one : (name : List ℕ) → IsForm (Start name) → message ≡ get (spelling (Start name)) → Due w message
    fills_one : (body : List ℕ) → IsGoodShow service schema w body → (d : Forest) → IsPage body d → (answers : Form) → IsTextForm answers → (f : Filled)
        → fills d answers ≡ Ok f → message ≡ post f.target f.body → Due w message

  -- what a reply is, from that world to this one
  record IsFine (from : World) (reply : Reply) (to : World) : Type 0 where
    usual : is_amiss reply ≡ false
    served : IsServed to
    good : IsGood service schema from to reply

  -- ---- one message

  by_step : (w : World) (r : Request) (key : ℕ) → IsServed w → IsTextForm r.form → key < 2 ^ 64 → is_amiss (step service w r key).reply ≡ false
      → IsFine w (step service w r key).reply (step service w r key).world
  by_step w r key s texts small h = record {
    usual = h;
    served = served_next w r key s texts small;
    good = pages_are_good service schema w w r key ok s.sound none texts;
  }

  is_quiet : (w : World) (message rest : List ℕ) (r : Request) (key : ℕ) → IsServed w → Due w message → length message < 2 ^ 64 → Cut message (Ok r) rest
      → is_amiss (step service w r key).reply ≡ false
  is_quiet w message rest r key s (begins_one name form e) fits cut =
      let is = gets_are_read name rest r form (subst (λ m. Cut m (Ok r) rest) e cut) in
      ap (λ x. is_amiss (step service w x key).reply) is ∙ starts_quiet service w key (session_of service name)
  is_quiet w message rest r key s (fills_one body good d page answers texts f filled e) fits cut =
      let short : length f.body < 2 ^ 64 = omega (arith, fits, ap length e, post_longer f.target f.body) in
      let is = posted.request_is t schema w s.kinded s.numbered s.apart body good d page answers texts f filled r rest short
      (subst (λ m. Cut m (Ok r) rest) e cut) in
      ap (λ x. is_amiss (step service w x key).reply) is
      ∙ posted.request_quiet t schema w s.kinded s.numbered s.apart body good d page answers texts f filled key

  -- a form that is outside the formats changes nothing
  by_guard : (w : World) (taken s : Step) (o : Option (List ℕ)) → IsServed w → IsFine w taken.reply taken.world → s ≡ guarded_by service w taken o
      → IsFine w s.reply s.world
  by_guard w taken s None h fine e = subst (λ (x : Step). IsFine w x.reply x.world) (sym e) fine
  by_guard w taken s (Some field) h fine e =
      subst (λ (x : Step). IsFine w x.reply x.world) (sym e) (record { usual = refl; served = h; good = tt })

  by_request : (w : World) (message rest : List ℕ) (r : Request) (key : ℕ) (s : Step) → IsServed w → Due w message → length message < 2 ^ 64 → key < 2 ^ 64
      → Cut message (Ok r) rest → IsGuarded formats service w r key s → IsFine w s.reply s.world
  by_request w message rest r key s h due fits small cut guard =
      by_guard w (step service w r key) s guard.first h
      (by_step w r key h (cuts_are_text message r rest cut) small (is_quiet w message rest r key h due fits cut)) guard.is_step

  -- ---- refusals

  fine_plain : (w : World) (reply other : Reply) → IsServed w → other ≡ reply → is_amiss other ≡ false → IsGood service schema w w other → IsFine w reply w
  fine_plain w reply other s e h g = subst (λ r. IsFine w r w) e (record { usual = h; served = s; good = g })

  some_reply : (a b : Reply) → Some a ≡ Some b → a ≡ b
  some_reply a b e = cc

  refusal_fine : (outcome : ReadOutcome) (reply : Reply) (w : World) → IsServed w → refusal outcome ≡ Some reply → IsFine w reply w
  refusal_fine outcomes.BadHead reply w s e = fine_plain w reply replies.Bad s (some_reply replies.Bad reply e) refl tt
  refusal_fine outcomes.Truncated reply w s e = fine_plain w reply replies.Bad s (some_reply replies.Bad reply e) refl tt
  refusal_fine outcomes.HeadTooLong reply w s e = fine_plain w reply replies.HeadTooLong s (some_reply replies.HeadTooLong reply e) refl tt
  refusal_fine outcomes.NoHost reply w s e = fine_plain w reply replies.Bad s (some_reply replies.Bad reply e) refl tt
  refusal_fine outcomes.Coding reply w s e = fine_plain w reply replies.LengthRequired s (some_reply replies.LengthRequired reply e) refl tt
  refusal_fine outcomes.BadLength reply w s e = fine_plain w reply replies.Bad s (some_reply replies.Bad reply e) refl tt
  refusal_fine outcomes.LengthRequired reply w s e = fine_plain w reply replies.LengthRequired s (some_reply replies.LengthRequired reply e) refl tt
  refusal_fine outcomes.BodyTooLong reply w s e = fine_plain w reply replies.BodyTooLong s (some_reply replies.BodyTooLong reply e) refl tt
  refusal_fine outcomes.Media reply w s e = fine_plain w reply replies.Media s (some_reply replies.Media reply e) refl tt
  refusal_fine outcomes.End reply w s e = absurd cc
  refusal_fine outcomes.ReadFault reply w s e = absurd cc
  refusal_fine outcomes.Memory reply w s e = absurd cc

  -- ---- a run of one message

  later_fit : (keys keys1 : Coming) → KeysFit keys → (keys1 ≡ keys) ⊎ (keys1 ≡ later_words keys) → KeysFit keys1
  later_fit keys keys1 h (inl e) = subst KeysFit (sym e) h
  later_fit keys keys1 h (inr e) = subst KeysFit (sym e) (λ i. h (suc i))

  abbrev Comes : At → Reply → At → Type 0
  Comes at reply to = IsFine at.world reply to.world × KeysFit to.keys

  by_turn : (at to : At) (reply : Reply) (cost : ℕ) → IsServed at.world → KeysFit at.keys → Due at.world at.bytes → length at.bytes < 2 ^ 64
      → Turn formats service at reply cost to → Comes at reply to
  by_turn at to reply cost s keys due fits (request r cut guard later) = (
    by_request at.world at.bytes to.bytes r (at.keys 0) (record { reply = reply; world = to.world; cost = cost }) s due fits (keys 0) cut guard,
    later_fit at.keys to.keys keys (inr later),
  )
  by_turn at to reply cost s keys due fits (no_memory cut is stays drawn few) = (
    subst (λ w. IsFine at.world reply w) (sym stays) (fine_plain at.world reply replies.Memory s (sym is) refl tt),
    later_fit at.keys to.keys keys drawn,
  )

  by_stop : (at to : At) (reply : Reply) (others : List Reply) → IsServed at.world → KeysFit at.keys → others ≡ reply ∷ [] → Stops at others to
      → Comes at reply to
  by_stop at _ reply _ s keys e (ended rest cut) = absurd cc
  by_stop at _ reply _ s keys e (refused outcome other rest cut is) =
      let same : other ≡ reply = cc in (refusal_fine outcome reply at.world s (is ∙ ap Some same), keys)

  by_run : (at mid to : At) (reply : Reply) (first others : List Reply) (cost : ℕ) → IsServed at.world → KeysFit at.keys → Due at.world at.bytes
      → length at.bytes < 2 ^ 64 → Turns formats service at first cost mid → reply ∷ [] ≡ first ++ others
      → ((length first ≡ 1) × (others ≡ []) × (to ≡ mid)) ⊎ ((length first < 1) × Stops mid others to) → Comes at reply to
  by_run at mid to reply [] others cost s keys due fits turns e (inl x) = absurd (omega (arith, x.0))
  by_run at mid to reply (r ∷ []) others cost s keys due fits (a, b, next, turn, done, sum) e (inl x) =
      let same : r ≡ reply = cc in
      subst (λ (z : At). Comes at reply z) (sym (x.2 ∙ done.1))
      (subst (λ q. Comes at q next) same (by_turn at next r a s keys due fits turn))
  by_run at mid to reply (r ∷ (q ∷ first)) others cost s keys due fits turns e (inl x) = absurd (omega (arith, x.0))
  by_run at mid to reply [] others cost s keys due fits turns e (inr x) =
      subst (λ (z : At). Comes z reply to) turns.1
      (by_stop mid to reply others (subst (λ (z : At). IsServed z.world) (sym turns.1) s) (subst (λ (z : At). KeysFit z.keys) (sym turns.1) keys) (sym e) x.1)
  by_run at mid to reply (r ∷ first) others cost s keys due fits turns e (inr x) = absurd (omega (arith, x.0))

  by_exchange : (from to : Between) (message : List ℕ) (reply : Reply) → IsServed from.world → KeysFit from.keys → Due from.world message
      → Exchange formats service from message reply to → IsFine from.world reply to.world × KeysFit to.keys
  by_exchange from to message reply s keys due x =
      by_run (begins from message) x.run.mid (begins to x.rest) reply x.run.first x.run.last x.cost s keys due x.sent_fits x.run.turns x.run.all x.run.ends

  -- ---- the next message

  no_form_in : (w to : World) (body : List ℕ) (d : Forest) → IsGoodEnd service schema w body → IsPage body d → form_in d ≡ None
  no_form_in w to body d good page =
      ap form_in (good.reads.only d page ∙ ap joined good.is_page) ∙ form_joined (exit_page service.name good.document.tree)
      ∙ ap (option_map joined_form) (last_pages_have_no_form t service.name good.document good.is_made)

  by_fill : (from to : World) (reply : Reply) (answers : Form) (f : Filled) → IsFine from reply to → length (bytes_by service reply) < 2 ^ 64
      → IsTextForm answers → OfPage (body_in (bytes_by service reply)) answers (Ok f) → Due to (post f.target f.body)
  by_fill from to (replies.Page body) answers f fine fits texts page =
      let found = page_found (with_names [] (field_names service)) body fits in
      fills_one body fine.good page.0 (subst (λ b. IsPage b page.0) found page.1) answers texts f page.2 refl
  by_fill from to (replies.Final body) answers f fine fits texts page =
      let found = last_found (with_names [] (field_names service)) body fits in
      let none = no_form_in from to body page.0 fine.good (subst (λ b. IsPage b page.0) found page.1) in
      let bad : Err faults.NoForm ≡ Ok f = sym (ap (λ o. fills_form o answers) none) ∙ page.2 in absurd cc
  by_fill from to reply answers f fine fits texts page =
      absurd (no_page (with_names [] (field_names service)) reply fine.usual tt fits page.0 page.1)

  abbrev message_of : Next → List ℕ
  message_of Over = []
  message_of (Sends message lines) = message
  message_of (Asks name) = []

  by_does : (from to : World) (reply : Reply) (lines : List ℕ) (n : Next) → IsFine from reply to → length (bytes_by service reply) < 2 ^ 64
      → Does (body_in (bytes_by service reply)) lines n → (message rest : List ℕ) → n ≡ Sends message rest → Due to message
  by_does from to reply lines n fine fits (no_line nil) message rest e = absurd cc
  by_does from to reply lines n fine fits (by_line line behind cut (Ok f) of not) message rest e =
      subst (Due to) (ap message_of e) (by_fill from to reply (form_of line) f fine fits (answers_are_text line) of)
  by_does from to reply lines n fine fits (by_line line behind cut (Err faults.NotAPage) of not) message rest e = absurd cc
  by_does from to reply lines n fine fits (by_line line behind cut (Err faults.NoForm) of not) message rest e = absurd cc
  by_does from to reply lines n fine fits (by_line line behind cut (Err (faults.UnknownAnswer name)) of not) message rest e = absurd cc
  by_does from to reply lines n fine fits (by_line line behind cut (Err faults.Memory) of not) message rest e = absurd cc

  -- ---- a visit

  by_visit : (from to : Between) (message lines : List ℕ) (replies : List Reply) (end : End) → IsServed from.world → KeysFit from.keys
      → Due from.world message → Visits formats service from message lines replies to end → AllByRecursion (λ (r : Reply). is_amiss r ≡ false) replies
  by_visit from to message lines replies end s keys due (last a b m l reply next n x d st) = ((by_exchange from to message reply s keys due x).0.usual, tt)
  by_visit from to message lines replies end s keys due (quiet a m l) = tt
  by_visit from to message lines replies end s keys due (no_room a b m l reply x) = ((by_exchange from to message reply s keys due x).0.usual, tt)
  by_visit from to message lines replies end s keys due (broken a b m l reply x) = ((by_exchange from to message reply s keys due x).0.usual, tt)
  by_visit from to message lines replies end s keys due (more a mid b m l next rest reply others n x d v) =
      let both = by_exchange from mid message reply s keys due x in
      let fine = both.0 in (
        fine.usual,
        by_visit mid to next rest others end fine.served both.1
            (by_does from.world mid.world reply lines (Sends next rest) fine x.reply_fits d next rest refl) v,
      )

pub visits_are_taken : VisitsAreTaken
visits_are_taken formats t schema ok from to name lines replies end form start keys v =
    let begun : IsServed formats t schema ok (empty t.service) = record {
      sound = empty_is_sound t schema 1 1 ok;
      kinded = (kinds_stay t).0;
      numbered = (numbers_stay t.service).0;
      apart = empty_is_world t.service;
    } in
    by_visit formats t schema ok from to (get (spelling (Start name))) lines replies end (subst (IsServed formats t schema ok) (sym start) begun) keys
    (begins_one name form refl) v
