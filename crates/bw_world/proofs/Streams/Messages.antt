-- One message of a stream, and what is sent in answer to it.
use Rattle.std.proofs.Common.{◌≡◌, ◌+◌, ◌-◌, ℕ, List, [], ◌∷◌, ◌++◌, Option, None, Some, Ok, Err, refl, sym, ap, ◌∙◌, subst, inl, inr, arith}
use Rattle.bw_format.specs.declared.format.Format.{Format}
use Rattle.bw_model.specs.Guards.{FirstOutside, stored, guarded_by}
use Rattle.bw_http.specs.Cuts.{Cut, Tells}
use Rattle.bw_http.specs.Messages.{IsShort, ComesOf}
use Rattle.bw_http.specs.Replies.{bytes_of}
use Rattle.bw_http.specs.declared.replies.Reply.{Reply}
use Rattle.bw_http.specs.declared.replies.Reply.TheVariants as replies
use Rattle.bw_http.specs.declared.request.ReadOutcome.{ReadOutcome}
use Rattle.bw_http.specs.declared.request.ReadOutcome.TheVariants as outcomes
use Rattle.bw_http.specs.declared.request.Request.{Request}
use Rattle.bw_lang.specs.Table.Names.{with_names}
use Rattle.bw_lang.specs.declared.service.Service.{Service}
use Rattle.bw_model.specs.Runs.{At, Turn, Stops, refusal}
use Rattle.bw_model.specs.Runs.Turn.{request, no_memory}
use Rattle.bw_model.specs.Runs.Stops.{ended, refused}
use Rattle.bw_model.specs.Sessions.{World}
use Rattle.bw_model.specs.Steps.{Step, step}
use Rattle.bw_out.specs.Told.{Draws, later_words}
use Rattle.bw_out.specs.Writes.{AppendsPart}
use Rattle.bw_types.specs.Fields.{field_names}
use Rattle.bw_world.specs.Stands.{StandsFor}
use Rattle.bw_world.specs.Handled.{Handles, IsHandled, EndsBy}
use Rattle.bw_world.specs.Streams.Answers.{Place, IsAt}
use Rattle.bw_world.specs.Streams.Courses.{AreLeft, bytes_by}
use Rattle.bw_world.specs.Streams.Steps.Turns.{Takes, Goes}
use Rattle.bw_world.specs.Streams.Taking.{without_request}
use Rattle.bw_world.specs.declared.outcomes.Taken.{Taken}
use Rattle.bw_world.specs.declared.outcomes.Taken.TheVariants as takens
use Rattle.bw_world.specs.declared.outcomes.Next.TheVariants as nexts

-- what reading gave, of the bytes at which the code stands: a cut of them, and the rest is at hand or left to read
told_at : (taken : List ℕ) (left later : Option (List ℕ)) (bytes : List ℕ) (result : _) (now : List ℕ) → AreLeft taken left bytes
    → Tells left later taken result now
    → (rest : List ℕ) × AreLeft now later rest × Cut bytes result rest
told_at taken left later bytes result now is tells =
    let t = tells is.0 is.1 in
    (now ++ t.0, (t.0, t.1, refl), subst (λ b. Cut b result (now ++ t.0)) (sym is.2) t.2)

module _ (formats : List Format) (old new : Place) (r : Request) (reply : Reply) (at : At) (rest : List ℕ) (cut : Cut at.bytes (Ok r) rest)
    (left : AreLeft new.taken new.left rest) (keys : new.keys ≡ Some (later_words at.keys)) (stands : StandsFor old.seen at.world) where
  abbrev served : Service
  served = old.seen.service

  abbrev s : Step
  s = step served at.world r (at.keys 0)

  abbrev after : World → At
  after w = record { world = w; bytes = rest; keys = later_words at.keys }

  abbrev Then : Type 0
  Then = (to : At) × IsAt new to × ((cost : ℕ) × Turn formats served at reply cost to × (new.steps ≡ old.steps + cost))

  stays : new.seen ≡ old.seen → IsAt new (after at.world)
  stays e = record { stands = subst (λ x. StandsFor x at.world) (sym e) stands; bytes = left; keys = keys }

  took : (first : Option (List ℕ)) → FirstOutside formats r.form (stored served at.world r) first → (w : World) (cost : ℕ)
      → record { reply = reply; world = w; cost = cost } ≡ guarded_by served at.world s first → Turn formats served at reply cost (after w)
  took first is w cost e = request r cut (record { first = first; is_first = is; is_step = e }) refl

  handled_by : (first : Option (List ℕ)) → FirstOutside formats r.form (stored served at.world r) first
      → EndsBy old.seen new.seen reply old.steps new.steps s first → Then
  handled_by (Some field) is k =
      let e = ap (λ (x : Reply). let y : Step = record { reply = x; world = at.world; cost = 0 } in y) k.reply in
      (after at.world, stays k.world, (0, took (Some field) is at.world 0 e, omega (arith, k.cost)))
  handled_by None is (inr k) =
      let e = ap (λ (x : Reply). let y : Step = record { reply = x; world = s.world; cost = s.cost } in y) (k.reply) in
      (after s.world, record { stands = k.world; bytes = left; keys = keys }, (s.cost, took None is s.world s.cost e, k.cost))
  handled_by None is (inl k) = (
    after at.world,
    stays k.world,
    (new.steps - old.steps, no_memory (cut.0, cut.1, cut.2) k.reply refl (inr refl) (omega (arith, k.rises)), omega (arith, k.rises)),
  )

  handled : IsHandled formats old.seen new.seen r (at.keys 0) reply old.steps new.steps at.world → Then
  handled h = handled_by h.first h.is_first h.ends

pub request_taken : (formats : List Format) (old new : Place) (r : Request) (key : ℕ) (reply : Reply) → Tells old.left new.left old.taken (Ok r) new.taken → Draws old.keys new.keys key
    → Handles formats old.seen new.seen r key reply old.steps new.steps → new.seen.service ≡ old.seen.service
    → Takes formats old.seen.service old new (takens.Answered reply)
request_taken formats old new r key reply tells draws handles same at is =
    let cut = told_at old.taken old.left new.left at.bytes (Ok r) new.taken is.bytes tells in
    let drawn : Draws (Some at.keys) new.keys key = subst (λ o. Draws o new.keys key) is.keys draws in
    let hand : IsHandled formats old.seen new.seen r (at.keys 0) reply old.steps new.steps at.world =
    subst (λ k. IsHandled formats old.seen new.seen r k reply old.steps new.steps at.world) drawn.0 (handles at.world is.stands) in
    handled formats old new r reply at cut.0 cut.2 cut.1 drawn.1 is.stands hand

-- a message that can't be cut
refused_as : (formats : List Format) (old : Place) (taken : List ℕ) (left held : Option (List ℕ)) (o : ReadOutcome) (reply : Reply) (at : At) → IsAt old at
    → Tells old.left left old.taken (Err o) taken
    → refusal o ≡ Some reply → (to : At) × IsAt (record old { taken = taken; left = left; held = held }) to
    × (Stops at (reply ∷ []) to × (old.steps ≡ old.steps))
refused_as formats old taken left held o reply at is tells e =
    let cut = told_at old.taken old.left left at.bytes (Err o) taken is.bytes tells in
    (record at { bytes = cut.0 }, record { stands = is.stands; bytes = cut.1; keys = is.keys }, (refused o reply cut.0 cut.2 e, refl))

outcome_taken : (formats : List Format) (old : Place) (taken : List ℕ) (left held : Option (List ℕ)) (o : ReadOutcome) → Tells old.left left old.taken (Err o) taken
    → (o ≡ outcomes.ReadFault → IsShort taken) → Takes formats old.seen.service old (record old { taken = taken; left = left; held = held }) (without_request o)
outcome_taken formats old taken left held outcomes.End tells short at is =
    let cut = told_at old.taken old.left left at.bytes (Err outcomes.End) taken is.bytes tells in
    (record at { bytes = cut.0 }, record { stands = is.stands; bytes = cut.1; keys = is.keys }, (ended cut.0 cut.2, refl))
outcome_taken formats old taken left held outcomes.BadHead tells short at is = refused_as formats old taken left held outcomes.BadHead replies.Bad at is tells refl
outcome_taken formats old taken left held outcomes.Truncated tells short at is = refused_as formats old taken left held outcomes.Truncated replies.Bad at is tells refl
outcome_taken formats old taken left held outcomes.HeadTooLong tells short at is =
    refused_as formats old taken left held outcomes.HeadTooLong replies.HeadTooLong at is tells refl
outcome_taken formats old taken left held outcomes.NoHost tells short at is = refused_as formats old taken left held outcomes.NoHost replies.Bad at is tells refl
outcome_taken formats old taken left held outcomes.Coding tells short at is = refused_as formats old taken left held outcomes.Coding replies.LengthRequired at is tells refl
outcome_taken formats old taken left held outcomes.BadLength tells short at is = refused_as formats old taken left held outcomes.BadLength replies.Bad at is tells refl
outcome_taken formats old taken left held outcomes.LengthRequired tells short at is =
    refused_as formats old taken left held outcomes.LengthRequired replies.LengthRequired at is tells refl
outcome_taken formats old taken left held outcomes.BodyTooLong tells short at is =
    refused_as formats old taken left held outcomes.BodyTooLong replies.BodyTooLong at is tells refl
outcome_taken formats old taken left held outcomes.Media tells short at is = refused_as formats old taken left held outcomes.Media replies.Media at is tells refl
outcome_taken formats old taken left held outcomes.ReadFault tells short at is =
    let cut = told_at old.taken old.left left at.bytes (Err outcomes.ReadFault) taken is.bytes tells in
    (at, record { stands = is.stands; bytes = subst (AreLeft taken left) cut.2.1 cut.1; keys = is.keys }, (refl, short refl, refl))
outcome_taken formats old taken left held outcomes.Memory tells short at is =
    let cut = told_at old.taken old.left left at.bytes (Err outcomes.Memory) taken is.bytes tells in (
      record at { bytes = cut.0 },
      record { stands = is.stands; bytes = cut.1; keys = is.keys },
      (0, no_memory cut.2 refl refl (inl refl) (omega arith), omega arith),
    )

-- so it is of what the code made of the outcome
pub outcome_taken_as : (formats : List Format) (old : Place) (taken : List ℕ) (left held : Option (List ℕ)) (o : ReadOutcome) (came : Taken) → came ≡ without_request o
    → Tells old.left left old.taken (Err o) taken
    → (o ≡ outcomes.ReadFault → IsShort taken) → Takes formats old.seen.service old (record old { taken = taken; left = left; held = held }) came
outcome_taken_as formats old taken left held o came e tells short =
    subst (λ t. Takes formats old.seen.service old (record old { taken = taken; left = left; held = held }) t) (sym e) (outcome_taken formats old taken left held o tells short)

-- after a failed read no message is whole in the bytes at hand
pub short_taken : (before after : Option (List ℕ)) (held now : List ℕ) (o : ReadOutcome) → ComesOf before after held (Err o) now → o ≡ outcomes.ReadFault
    → IsShort now
short_taken before after held now o comes e =
    let c : ComesOf before after held (Err outcomes.ReadFault) now = subst (λ x. ComesOf before after held (Err x) now) e comes in
    subst IsShort (sym c.outcome.1) c.outcome.0

-- ---- a reply is sent

-- the code stands where it stood
still_at : (mid : Place) (left held : Option (List ℕ)) (to : At) → left ≡ mid.left → IsAt mid to → IsAt (record mid { left = left; held = held }) to
still_at mid left held to e i = record { stands = i.stands; bytes = (i.bytes.0, e ∙ i.bytes.1, i.bytes.2); keys = i.keys }

-- the bytes of a reply by the names of the fields that the code has
named_part : (service : Service) (names : List (List ℕ)) (reply : Reply) (a b c : Option (List ℕ)) → names ≡ with_names [] (field_names service) → b ≡ a
    → AppendsPart b c (bytes_of names reply) → AppendsPart a c (bytes_by service reply)
named_part service names reply a b c e f w = subst (λ n. AppendsPart a c (bytes_of n reply)) e (subst (λ h. AppendsPart h c (bytes_of names reply)) f w)

pub answer_broken : (formats : List Format) (service : Service) (old mid : Place) (left held : Option (List ℕ)) (reply : Reply) (names : List (List ℕ))
    → names ≡ with_names [] (field_names service) → Takes formats service old mid (takens.Answered reply) → mid.held ≡ old.held → left ≡ mid.left
    → AppendsPart mid.held held (bytes_of names reply) → Goes formats service old (record mid { left = left; held = held }) nexts.WriteFault
answer_broken formats service old mid left held reply names n takes e l w at is =
    let t = takes at is in
    (t.0, still_at mid left held t.0 l t.1, (reply, t.2.0, inl t.2.1, t.2.2, named_part service names reply old.held mid.held held n e w))

pub refusal_broken : (formats : List Format) (service : Service) (old mid : Place) (left held : Option (List ℕ)) (reply : Reply) (names : List (List ℕ))
    → names ≡ with_names [] (field_names service) → Takes formats service old mid (takens.Refused reply) → mid.held ≡ old.held → left ≡ mid.left
    → AppendsPart mid.held held (bytes_of names reply) → Goes formats service old (record mid { left = left; held = held }) nexts.WriteFault
refusal_broken formats service old mid left held reply names n takes e l w at is =
    let t = takes at is in
    (t.0, still_at mid left held t.0 l t.1, (reply, 0, inr (refl, t.2.0), omega (arith, t.2.1), named_part service names reply old.held mid.held held n e w))
