-- A message is taken, handled and put into a group.
use Rattle.std.proofs.Common.{◌≡◌, ◌≤◌, ◌<◌, ◌+◌, ◌-◌, ◌^◌, ℕ, List, [], ◌∷◌, ◌++◌, length, min, take}
use Rattle.std.proofs.Common.{Option, Some, Ok, Err, Bool, true, false, refl, sym, ap, ◌∙◌, subst, inl, arith, append_assoc}
use Rattle.std.proofs.lemmas.List.{append_cancel_right, append-nil, length-append, length-take, take_at}
use Rattle.std.specs.Io.KnownBytes.{Consumes}
use Rattle.bw_format.specs.declared.format.Format.{Format}
use Rattle.bw_http.specs.Cuts.{Cut, Tells}
use Rattle.bw_http.specs.Messages.{IsShort}
use Rattle.bw_http.specs.Taken.{IsFilled}
use Rattle.bw_http.specs.declared.replies.Reply.{Reply}
use Rattle.bw_http.specs.declared.replies.Reply.TheVariants as replies
use Rattle.bw_http.specs.declared.request.ReadOutcome.{ReadOutcome}
use Rattle.bw_http.specs.declared.request.ReadOutcome.TheVariants as outcomes
use Rattle.bw_http.specs.declared.request.Request.{Request}
use Rattle.bw_journal.specs.Layout.{Fits}
use Rattle.bw_journal.specs.Reading.{entry}
use Rattle.bw_journal.specs.declared.limits.TheConstants.{MAX_MESSAGE_BYTES}
use Rattle.bw_lang.specs.declared.service.Service.{Service}
use Rattle.bw_model.specs.Guards.{IsGuarded}
use Rattle.bw_model.specs.Laws.{is_page}
use Rattle.bw_model.specs.Runs.{At, Turn, refusal, request as by_request, no_memory, ended, refused}
use Rattle.bw_model.specs.Steps.{Step}
use Rattle.bw_model.proofs.Cases.{others_change_nothing}
use Rattle.bw_out.specs.Told.{AreWords, Draws}
use Rattle.bw_world.specs.Handled.{Handles}
use Rattle.bw_world.specs.Streams.Answers.{Place, IsAt}
use Rattle.bw_world.proofs.Streams.Messages.{request_taken}
use Rattle.bw_bringing.specs.Bringing.{Sends}
use Rattle.bw_keeping.specs.Entering.{IsEntered, nothing, kept}
use Rattle.bw_keeping.specs.Groups.{Grouped, Grows, IsKept}
use Rattle.bw_world.specs.Streams.Taking.{Taking, without_request}
use Rattle.bw_keeping.specs.Taking.{TakesFrom, Takes}
use Rattle.bw_world.specs.declared.outcomes.Taken.{Taken}
use Rattle.bw_world.specs.declared.outcomes.Taken.TheVariants as takens
use Rattle.bw_bringing.proofs.Messages.{cut_more, cut_off, one_cut}

-- ---- the message that was noted

-- the stream begins with these bytes, which are one message
pub record IsNoted (stream message : List ℕ) (r : Request) : Type 0 where
  pub rest : List ℕ
  pub parts : stream ≡ message ++ rest
  pub sends : Sends message r

consumed : (told after : Option (List ℕ)) (bytes left front : List ℕ) → told ≡ Some bytes → after ≡ Some left → Consumes told after front
    → bytes ≡ front ++ left
consumed told after bytes left front a b c =
    subst (λ (x : Option (List ℕ)). Consumes (Some bytes) x front) b (subst (λ (x : Option (List ℕ)). Consumes x after front) a c)

noted : (told after : Option (List ℕ)) (bytes held notes now : List ℕ) (r : Request) → told ≡ Some bytes → Tells told after held (Ok r) now
    → IsFilled told after held notes → IsNoted (held ++ bytes) (take (length notes - length now) notes) r
noted told after bytes held notes now r is tells filled =
    let t = tells bytes is in
    let left = t.0 in
    let all : held ++ bytes ≡ notes ++ left =
    ap (λ (x : List ℕ). held ++ x) (consumed told after bytes left filled.0 is t.1 filled.1) ∙ sym (append_assoc held filled.0 left)
    ∙ ap (λ (x : List ℕ). x ++ left) (sym filled.2) in
    let c = cut_off (held ++ bytes) (now ++ left) r t.2 in
    let m = c.message in
    let notes_are : notes ≡ m ++ now = append_cancel_right notes (m ++ now) left (sym all ∙ c.parts ∙ sym (append_assoc m now left)) in
    let size : length notes ≡ length m + length now = ap (λ (x : List ℕ). length x) notes_are ∙ length-append m now in
    let count : length m ≡ length notes - length now = omega (arith, size) in
    let front : take (length notes - length now) notes ≡ m =
    ap (λ (x : List ℕ). take (length notes - length now) x) notes_are ∙ take_at m now (length notes - length now) count in
    record {
      rest = now ++ left;
      parts = c.parts ∙ ap (λ (x : List ℕ). x ++ (now ++ left)) (sym front);
      sends = subst (λ (x : List ℕ). Sends x r) (sym front) c.sends;
    }

-- the message as the code has it
pub noted_as : (told after : Option (List ℕ)) (bytes held notes now seen left message : List ℕ) (r : Request) → told ≡ Some bytes
    → Tells told after held (Ok r) now → IsFilled told after held notes → seen ≡ notes → left ≡ now
    → message ≡ take (length seen - length left) seen → IsNoted (held ++ bytes) message r
noted_as told after bytes held notes now seen left message r is tells filled a b m =
    let same : message ≡ take (length notes - length now) notes =
    m ∙ ap (λ (x : List ℕ). take (length x - length left) x) a ∙ ap (λ (x : List ℕ). take (length notes - length x) notes) b in
    subst (λ (x : List ℕ). IsNoted (held ++ bytes) x r) (sym same) (noted told after bytes held notes now r is tells filled)

-- ---- what is kept of it

grows_none : (group after : Grouped) → after ≡ group → Grows group after []
grows_none group after e = subst (λ (g : Grouped). Grows group g []) (sym e) (record { bytes = sym (append-nil group.bytes); sum = refl })

turn_stays : (formats : List Format) (service : Service) (at to : At) (reply : Reply) (cost : ℕ) → is_page reply ≡ false → Turn formats service at reply cost to
    → to.world ≡ at.world
turn_stays formats service at to reply cost no_page (by_request r cut is keys) =
    others_change_nothing formats service at.world r (at.keys 0) (record { reply = reply; world = to.world; cost = cost }) is no_page
turn_stays formats service at to reply cost no_page (no_memory cut wants same keys few) = same

turn_enters : (formats : List Format) (service : Service) (at to : At) (reply : Reply) (cost key : ℕ) (message : List ℕ) (r : Request)
    → IsNoted at.bytes message r → key ≡ at.keys 0 → Fits (entry key message) → is_page reply ≡ true → Turn formats service at reply cost to
    → IsEntered formats service at to (entry key message ∷ [])
turn_enters formats service at to reply cost key message r n drawn fits page (by_request q cut is keys) =
    let s : Step = record { reply = reply; world = to.world; cost = cost } in
    let here : Cut at.bytes (Ok r) n.rest = subst (λ (x : List ℕ). Cut x (Ok r) n.rest) (sym n.parts) (cut_more message n.rest r n.sends) in
    let one = one_cut at.bytes n.rest to.bytes r q here cut in
    kept (entry key message) q s (n.parts ∙ ap (λ (x : List ℕ). message ++ x) one.1) drawn fits (subst (Sends message) one.0 n.sends)
    (subst (λ (k : ℕ). IsGuarded formats service at.world q k s) (sym drawn) is) page refl
turn_enters formats service at to reply cost key message r n drawn fits page (no_memory cut wants same keys few) =
    let never : is_page replies.Memory ≡ true = subst (λ (x : Reply). is_page x ≡ true) wants page in absurd cc

-- ---- a request

module _ (formats : List Format) (old new : Place) (before after : Grouped) (r : Request) (key : ℕ) (reply : Reply) (message : List ℕ)
    (tells : Tells old.left new.left old.taken (Ok r) new.taken) (draws : Draws old.keys new.keys key)
    (handles : Handles formats old.seen new.seen r key reply old.steps new.steps) (same : new.seen.service ≡ old.seen.service)
    (is_kept : IsKept before after key message reply) (words_fit : AreWords old.keys) (short : length message ≤ MAX_MESSAGE_BYTES)
    (is_noted : (bytes : List ℕ) → old.left ≡ Some bytes → IsNoted (old.taken ++ bytes) message r) where
  noted_at : (at : At) → IsAt old at → IsNoted at.bytes message r
  noted_at at is = subst (λ (x : List ℕ). IsNoted x message r) (sym is.bytes.2) (is_noted is.bytes.0 is.bytes.1)

  drawn_at : (at : At) → IsAt old at → key ≡ at.keys 0
  drawn_at at is = let d : Draws (Some at.keys) new.keys key = subst (λ o. Draws o new.keys key) is.keys draws in d.0

  fits_at : (at : At) → IsAt old at → Fits (entry key message)
  fits_at at is =
      let words : AreWords (Some at.keys) = subst AreWords is.keys words_fit in
      record { key = subst (λ (k : ℕ). k < 2 ^ 64) (sym (drawn_at at is)) (words 0); message = short }

  by_page : (page : Bool) → is_page reply ≡ page → Takes formats old.seen.service old new before after (takens.Answered reply)
  by_page true e at is =
      let t = request_taken formats old new r key reply tells draws handles same at is in
      record {
        to = t.0;
        stands = t.1;
        taking = t.2;
        entries = entry key message ∷ [];
        entered = turn_enters formats old.seen.service at t.0 reply t.2.0 key message r (noted_at at is) (drawn_at at is) (fits_at at is) e t.2.1;
        grows = is_kept.page e;
      }
  by_page false e at is =
      let t = request_taken formats old new r key reply tells draws handles same at is in
      record {
        to = t.0;
        stands = t.1;
        taking = t.2;
        entries = [];
        entered = nothing (turn_stays formats old.seen.service at t.0 reply t.2.0 e t.2.1);
        grows = grows_none before after (is_kept.other e);
      }

  pub request_kept : Takes formats old.seen.service old new before after (takens.Answered reply)
  request_kept = by_page (is_page reply) refl

-- where a request wasn't noted, there was no memory for its message
pub request_lost : (formats : List Format) (old : Place) (taken : List ℕ) (left held : Option (List ℕ)) (group : Grouped) (r : Request)
    → Tells old.left left old.taken (Ok r) taken
    → Takes formats old.seen.service old (record old { taken = taken; left = left; held = held }) group group (takens.Answered replies.Memory)
request_lost formats old taken left held group r tells at is =
    let t = tells is.bytes.0 is.bytes.1 in
    let rest = taken ++ t.0 in
    let cut : Cut at.bytes (Ok r) rest = subst (λ (x : List ℕ). Cut x (Ok r) rest) (sym is.bytes.2) t.2 in
    record {
      to = record at { bytes = rest };
      stands = record { stands = is.stands; bytes = (t.0, t.1, refl); keys = is.keys };
      taking = (0, no_memory (cut.0, cut.1, cut.2) refl refl (inl refl) (omega arith), omega arith);
      entries = [];
      entered = nothing refl;
      grows = grows_none group group refl;
    }

-- ---- what is no request

module _ (formats : List Format) (old : Place) (taken : List ℕ) (left held : Option (List ℕ)) (group : Grouped) (o : ReadOutcome) (at : At)
    (is : IsAt old at) (tells : Tells old.left left old.taken (Err o) taken) where
  abbrev now : Place
  now = record old { taken = taken; left = left; held = held }

  -- what is left behind it
  abbrev unread : List ℕ
  unread = (tells is.bytes.0 is.bytes.1).0

  abbrev to : At
  to = record at { bytes = taken ++ unread }

  cut : Cut at.bytes (Err o) (taken ++ unread)
  cut = subst (λ (x : List ℕ). Cut x (Err o) (taken ++ unread)) (sym is.bytes.2) (tells is.bytes.0 is.bytes.1).2

  stands : IsAt now to
  stands = record { stands = is.stands; bytes = (unread, (tells is.bytes.0 is.bytes.1).1, refl); keys = is.keys }

  from_there : (came : Taken) → Taking formats old.seen.service at to old now came → TakesFrom formats old.seen.service old now group group came at
  from_there came taking = record { to = to; stands = stands; taking = taking; entries = []; entered = nothing refl; grows = grows_none group group refl }

  refused_there : (reply : Reply) → refusal o ≡ Some reply → TakesFrom formats old.seen.service old now group group (takens.Refused reply) at
  refused_there reply e = from_there (takens.Refused reply) (refused o reply (taken ++ unread) cut e, refl)

outcome_at : (formats : List Format) (old : Place) (taken : List ℕ) (left held : Option (List ℕ)) (group : Grouped) (o : ReadOutcome)
    → Tells old.left left old.taken (Err o) taken → (o ≡ outcomes.ReadFault → IsShort taken)
    → Takes formats old.seen.service old (record old { taken = taken; left = left; held = held }) group group (without_request o)
outcome_at formats old taken left held group outcomes.End tells short at is =
    let c = cut formats old taken left held group outcomes.End at is tells in
    from_there formats old taken left held group outcomes.End at is tells takens.End (ended _ c, refl)
outcome_at formats old taken left held group outcomes.BadHead tells short at is =
    refused_there formats old taken left held group outcomes.BadHead at is tells replies.Bad refl
outcome_at formats old taken left held group outcomes.Truncated tells short at is =
    refused_there formats old taken left held group outcomes.Truncated at is tells replies.Bad refl
outcome_at formats old taken left held group outcomes.HeadTooLong tells short at is =
    refused_there formats old taken left held group outcomes.HeadTooLong at is tells replies.HeadTooLong refl
outcome_at formats old taken left held group outcomes.NoHost tells short at is =
    refused_there formats old taken left held group outcomes.NoHost at is tells replies.Bad refl
outcome_at formats old taken left held group outcomes.Coding tells short at is =
    refused_there formats old taken left held group outcomes.Coding at is tells replies.LengthRequired refl
outcome_at formats old taken left held group outcomes.BadLength tells short at is =
    refused_there formats old taken left held group outcomes.BadLength at is tells replies.Bad refl
outcome_at formats old taken left held group outcomes.LengthRequired tells short at is =
    refused_there formats old taken left held group outcomes.LengthRequired at is tells replies.LengthRequired refl
outcome_at formats old taken left held group outcomes.BodyTooLong tells short at is =
    refused_there formats old taken left held group outcomes.BodyTooLong at is tells replies.BodyTooLong refl
outcome_at formats old taken left held group outcomes.Media tells short at is =
    refused_there formats old taken left held group outcomes.Media at is tells replies.Media refl
outcome_at formats old taken left held group outcomes.ReadFault tells short at is =
    let t = tells is.bytes.0 is.bytes.1 in
    record {
      to = at;
      stands = record { stands = is.stands; bytes = (t.0, t.1, is.bytes.2 ∙ sym t.2.1); keys = is.keys };
      taking = (refl, short refl, refl);
      entries = [];
      entered = nothing refl;
      grows = grows_none group group refl;
    }
outcome_at formats old taken left held group outcomes.Memory tells short at is =
    let c = cut formats old taken left held group outcomes.Memory at is tells in
    from_there formats old taken left held group outcomes.Memory at is tells (takens.Answered replies.Memory)
    (0, no_memory c refl refl (inl refl) (omega arith), omega arith)

-- so it is of what the code made of the outcome
pub outcome_kept : (formats : List Format) (old : Place) (taken : List ℕ) (left held : Option (List ℕ)) (group : Grouped) (o : ReadOutcome) (came : Taken)
    → came ≡ without_request o → Tells old.left left old.taken (Err o) taken → (o ≡ outcomes.ReadFault → IsShort taken)
    → Takes formats old.seen.service old (record old { taken = taken; left = left; held = held }) group group came
outcome_kept formats old taken left held group o came e tells short at is =
    subst (λ (t : Taken). TakesFrom formats old.seen.service old (record old { taken = taken; left = left; held = held }) group group t at) (sym e)
    (outcome_at formats old taken left held group o tells short at is)

-- a front of few bytes is few bytes
pub front_is_short : (bytes front : List ℕ) (n : ℕ) → front ≡ take n bytes → length bytes ≤ MAX_MESSAGE_BYTES → length front ≤ MAX_MESSAGE_BYTES
front_is_short bytes front n is few =
    let size : length front ≡ min n (length bytes) = ap (λ (x : List ℕ). length x) is ∙ length-take n bytes in
    omega (arith, size, few)
