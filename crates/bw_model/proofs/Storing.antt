-- What sessions stored stays within the formats.
use Rattle.std.proofs.Common.{◌≡◌, ◌⊎◌, inl, inr, ℕ, zero, suc, Bool, true, false, List, [], ◌∷◌, ◌++◌, Option, Some, None, refl, sym, ap, subst}
use Rattle.std.specs.Prelude.{◌==◌, if◌then◌else◌, take}
use Rattle.std.specs.List.{All, AllByRecursion}
use Rattle.bw_format.specs.declared.format.Format.{Format}
use Rattle.bw_http.specs.declared.replies.Reply.{Reply}
use Rattle.bw_http.specs.declared.replies.Reply.TheVariants as replies
use Rattle.bw_http.specs.declared.request.Method.{Method}
use Rattle.bw_http.specs.declared.request.Method.TheVariants.{Get, Post, Other}
use Rattle.bw_http.specs.declared.request.Path.{Path}
use Rattle.bw_http.specs.declared.request.Path.TheVariants as paths
use Rattle.bw_lang.specs.declared.service.Service.{Service}
use Rattle.bw_meaning.specs.States.{Form, Input, Outcome, Rests, Went, Shown, Exited, Failed}
use Rattle.bw_meaning.specs.Values.{Document, Values}
use Rattle.bw_model.specs.Answers.{Fate, Stays, IsUsed, GoesOn, Leaves, refuses, turned, with_input, takes, waits, answered}
use Rattle.bw_model.specs.Received.{receives_of, first_refusal}
use Rattle.bw_model.specs.Sessions.{Talk, Live, World, now, current}
use Rattle.bw_model.specs.Steps.{Step, starts, asks, fated, founded, beginner, taken_out, on_path, step}
use Rattle.bw_model.proofs.Found.{IsOut, no_session, session, out, out_all}
use Rattle.bw_model.proofs.Kept.{by_start}
use Rattle.bw_model.specs.Guards.{IsInside, FirstOutside, fields_of, unless_refused, stored_at, stored_by, stored_on, stored, guarded_by}
use Rattle.bw_model.specs.FormatLaws.{EmptyIsWithin, StepsKeepWithin, StreamsKeepWithin}
use Rattle.bw_model.specs.Runs.{At, Turn, request as by_request, no_memory}
use Rattle.bw_model.specs.Within.{IsTaken, IsWithin, AreWithin}
use Rattle.bw_model.proofs.Deciding.{all_inside}

-- ---- lists of inputs

module _ {A : Type 0} where
  -- a list with one more behind it, cut at a place: at its end or in front of it
  abbrev Cut : List A → A → List A → A → List A → Type 0
  Cut xs x front y back = ((back ≡ []) × (front ≡ xs) × (y ≡ x)) ⊎ ((rest : List A) × (xs ≡ front ++ y ∷ rest))

  nothing_cut : (front : List A) (y : A) (back : List A) → [] ≡ front ++ y ∷ back → ⊥
  nothing_cut [] y back e = cc
  nothing_cut (w ∷ front) y back e = cc

  cut : (xs : List A) (x : A) (front : List A) (y : A) (back : List A) → xs ++ x ∷ [] ≡ front ++ y ∷ back → Cut xs x front y back
  cut [] x [] y back e = inl (cc, refl, cc)
  cut [] x (z ∷ front) y back e = absurd (nothing_cut front y back cc)
  cut (w ∷ xs) x [] y back e = inr (xs, cc)
  cut (w ∷ xs) x (z ∷ front) y back e =
      let first : w ≡ z = cc in
      let later : xs ++ x ∷ [] ≡ front ++ y ∷ back = cc in
      elim (cut xs x front y back later) [
        | inl h ↦ inl (h.0, (λ i. sym first i ∷ h.1 i), h.2)
        | inr h ↦ inr (h.0, λ i. first i ∷ h.1 i)
      ]

module _ (formats : List Format) (service : Service) where
  -- one input more
  module _ (talk : Talk) (form : Form) (shared : Values) (at : ℕ) (locals : Values) (rests : Rests) (shown : Document) (after : Values) (units : ℕ)
      (waits_at : now service talk ≡ Shown at locals rests shown after units) (inside : All (IsInside formats form) (fields_of (receives_of service talk.session at)))
      (h : IsWithin formats service talk) where
    abbrev i : Input
    i = record { form = form; shared = shared }

    pub is_within_next : IsWithin formats service (with_input talk form shared)
    is_within_next earlier j later e =
        elim (cut talk.inputs i earlier j later e) [
          | inl k ↦ subst (λ (f : Form). IsTaken formats service talk.session talk.origin earlier f) (ap (λ (x : Input). x.form) (sym k.2))
              (subst (λ (es : List Input). IsTaken formats service talk.session talk.origin es form) (sym k.1) (record {
                at = at;
                locals = locals;
                rests = rests;
                shown = shown;
                shared = after;
                units = units;
                waits = waits_at;
                inside = inside;
              }))
          | inr k ↦ h earlier j k.0 k.1
        ]

  -- where it goes on, it is within the formats
  abbrev GoesWithin : Fate → Type 0
  GoesWithin Stays = Unit {0}
  GoesWithin IsUsed = Unit {0}
  GoesWithin (GoesOn talk shared) = IsWithin formats service talk
  GoesWithin (Leaves shared) = Unit {0}

  turned_within : (number : ℕ) (talk : Talk) (o : Outcome) → IsWithin formats service talk → GoesWithin (turned number talk o).fate
  turned_within number talk (Shown at locals rests d shared units) h = h
  turned_within number talk (Exited d shared units) h = tt
  turned_within number talk (Failed f units) h = tt
  turned_within number talk (Went st) h = tt

  module _ (first : ℕ) (talk : Talk) (form : Form) (shared : Values) (h : IsWithin formats service talk) where
    takes_within : (at : ℕ) (locals : Values) (rests : Rests) (shown : Document) (after : Values) (units : ℕ)
        → now service talk ≡ Shown at locals rests shown after units → (o : Option Reply)
        → All (IsInside formats form) (unless_refused o (receives_of service talk.session at)) → GoesWithin (takes service first talk form shared o).fate
    takes_within at locals rests shown after units e (Some reply) inside = tt
    takes_within at locals rests shown after units e None inside = by (current first talk == 4294967295)
      where
        by : (b : Bool) → GoesWithin (if b then refuses replies.NoTurns else turned (suc (current first talk)) (with_input talk form shared)
            (now service (with_input talk form shared))).fate
        by true = tt
        by false =
            turned_within (suc (current first talk)) (with_input talk form shared) (now service (with_input talk form shared))
            (is_within_next talk form shared at locals rests shown after units e inside h)

    waits_within : (o : Outcome) → now service talk ≡ o → All (IsInside formats form) (stored_at service talk form o)
        → GoesWithin (waits service first talk Post form shared o).fate
    waits_within (Shown at locals rests d after units) e inside =
        takes_within at locals rests d after units e (first_refusal service (receives_of service talk.session at) locals form) inside
    waits_within (Exited d after units) e inside = tt
    waits_within (Failed f units) e inside = tt
    waits_within (Went st) e inside = tt

    looks_within : (o : Outcome) → GoesWithin (waits service first talk Get form shared o).fate
    looks_within (Shown at locals rests d after units) = tt
    looks_within (Exited d after units) = tt
    looks_within (Failed f units) = tt
    looks_within (Went st) = tt

    posts_within : (turn : ℕ) (b : Bool) → All (IsInside formats form) (if b then stored_at service talk form (now service talk) else [])
        → GoesWithin (if b then waits service first talk Post form shared (now service talk) else refuses (replies.Stale (current first talk))).fate
    posts_within turn true inside = waits_within (now service talk) refl inside
    posts_within turn false inside = tt

    gets_within : (b : Bool) → GoesWithin (if b then waits service first talk Get form shared (now service talk) else refuses
        (replies.Stale (current first talk))).fate
    gets_within true = looks_within (now service talk)
    gets_within false = tt

  -- ---- worlds

  abbrev Each : List Live → Type 0
  Each ls = AllByRecursion (λ (l : Live). IsWithin formats service l.talk) ls

  fated_within : (w : World) (l : Live) (others : List Live) (fate : Fate) → AreWithin formats service w → IsWithin formats service l.talk → Each others
      → GoesWithin fate → AreWithin formats service (fated w l others fate)
  fated_within w l others Stays all h rest goes = all
  fated_within w l others IsUsed all h rest goes = (h, rest)
  fated_within w l others (GoesOn talk shared) all h rest goes = (goes, rest)
  fated_within w l others (Leaves shared) all h rest goes = rest

  taken_within : (n : ℕ) (ls : List Live) → Each ls → Each (take n ls)
  taken_within zero ls h = tt
  taken_within (suc n) [] h = tt
  taken_within (suc n) (l ∷ ls) h = (h.0, taken_within n ls h.1)

  founded_within : (w : World) (key : ℕ) (fate : Fate) → AreWithin formats service w → GoesWithin fate → AreWithin formats service (founded w key fate)
  founded_within w key Stays all goes = all
  founded_within w key IsUsed all goes = all
  founded_within w key (GoesOn talk shared) all goes = taken_within 1000 (record { number = w.next; key = key; talk = talk } ∷ w.live) (goes, all)
  founded_within w key (Leaves shared) all goes = all

  -- a session that begins has no input
  no_input : (w : World) (s : ℕ) → IsWithin formats service (beginner w s)
  no_input w s [] j later e = cc
  no_input w s (i ∷ earlier) j later e = cc

  starts_within : (w : World) (key : ℕ) (o : Option ℕ) → AreWithin formats service w → AreWithin formats service (starts service w key o).world
  starts_within w key o all =
      by_start (answered service) (λ s. AreWithin formats service s.world) service w key o (λ reply. all)
      (λ s. founded_within w key (turned w.first (beginner w s) (now service (beginner w s))).fate all
      (turned_within w.first (beginner w s) (now service (beginner w s)) (no_input w s)))

  module _ (w : World) (form : Form) (turn number key : ℕ) (all : AreWithin formats service w) where
    posted_within : (o : Option (Live × List Live)) → IsOut number key w.live o → All (IsInside formats form) (stored_by service w.first turn form o)
        → AreWithin formats service (asks service w Post form turn o).world
    posted_within _ (no_session e) inside = all
    posted_within _ (session m others x) inside =
        let both = out_all (λ (l : Live). IsWithin formats service l.talk) number key w.live m others x all in
        fated_within w m others (answered service w.first m.talk (record { method = Post; form = form; turn = turn; shared = w.shared })).fate all both.0 both.1
        (posts_within w.first m.talk form w.shared both.0 turn (turn == current w.first m.talk) inside)

    looked_within : (o : Option (Live × List Live)) → IsOut number key w.live o → AreWithin formats service (asks service w Get form turn o).world
    looked_within _ (no_session e) = all
    looked_within _ (session m others x) =
        let both = out_all (λ (l : Live). IsWithin formats service l.talk) number key w.live m others x all in
        fated_within w m others (answered service w.first m.talk (record { method = Get; form = form; turn = turn; shared = w.shared })).fate all both.0 both.1
        (gets_within w.first m.talk form w.shared both.0 (turn == current w.first m.talk))

  on_path_within : (w : World) (method : Method) (form : Form) (key : ℕ) (path : Path) → AreWithin formats service w
      → All (IsInside formats form) (stored_on service w method form path) → AreWithin formats service (on_path service w method form key path).world
  on_path_within w method form key paths.Other all inside = all
  on_path_within w Get form key paths.Index all inside = all
  on_path_within w Post form key paths.Index all inside = all
  on_path_within w Other form key paths.Index all inside = all
  on_path_within w Get form key (paths.Start name) all inside = starts_within w key _ all
  on_path_within w Post form key (paths.Start name) all inside = all
  on_path_within w Other form key (paths.Start name) all inside = all
  on_path_within w Get form key (paths.Turn number k turn) all inside = looked_within w form turn number k all (taken_out number k w.live) (out number k w.live)
  on_path_within w Post form key (paths.Turn number k turn) all inside =
      posted_within w form turn number k all (taken_out number k w.live) (out number k w.live) inside
  on_path_within w Other form key (paths.Turn number k turn) all inside = all

pub steps_keep_within : StepsKeepWithin
steps_keep_within formats service w request key s all h =
    subst (λ (x : Step). AreWithin formats service x.world) (sym h.is_step) (by h.first h.is_first)
  where
    by : (first : Option (List ℕ)) → FirstOutside formats request.form (stored service w request) first
        → AreWithin formats service (guarded_by service w (step service w request key) first).world
    by (Some field) is = all
    by None is =
        on_path_within formats service w request.method request.form key request.path all
        (all_inside formats request.form (stored service w request) None refl is)

pub empty_is_within : EmptyIsWithin
empty_is_within formats service = tt

pub turn_within : (formats : List Format) (service : Service) (at to : At) (reply : Reply) (cost : ℕ) → Turn formats service at reply cost to
    → AreWithin formats service at.world → AreWithin formats service to.world
turn_within formats service at to reply cost (by_request r cut is keys) h =
    steps_keep_within formats service at.world r (at.keys 0) (record { reply = reply; world = to.world; cost = cost }) h is
turn_within formats service at to reply cost (no_memory cut r same keys few) h = subst (AreWithin formats service) (sym same) h

pub streams_keep_within : StreamsKeepWithin
streams_keep_within formats service at to [] cost h r = subst (λ (x : At). AreWithin formats service x.world) (sym h.1) r
streams_keep_within formats service at to (reply ∷ replies) cost (first, later, mid, one, more, sum) r =
    streams_keep_within formats service mid to replies later more (turn_within formats service at mid reply first one r)
