-- What a scripted user's requests are answered: nothing that is amiss.
use Rattle.std.proofs.Common.{◌≡◌, ◌≢◌, ◌⊎◌, inl, inr, ℕ, zero, suc, Bool, true, false, List, [], ◌∷◌, Option, Some, None, refl}
use Rattle.std.proofs.Common.{sym, ap, ◌∙◌, subst, arith}
use Rattle.std.specs.Prelude.{◌==◌, nat_lt, if◌then◌else◌, unwrap_or}
use Rattle.std.specs.List.{Contains, AllByRecursion}
use Rattle.std.specs.Option.{option_map}
use Rattle.std.proofs.lemmas.Bool.Decides.{nat_tests}
use Rattle.bw_http.specs.declared.replies.Reply.{Reply}
use Rattle.bw_http.specs.declared.replies.Reply.TheVariants as replies
use Rattle.bw_http.specs.declared.request.Method.TheVariants.{Post}
use Rattle.bw_lang.specs.declared.service.Service.{Service}
use Rattle.bw_meaning.specs.States.{Form, Outcome, Went, Shown, Exited, Failed}
use Rattle.bw_meaning.specs.Values.{Values}
use Rattle.bw_model.specs.Answers.{Answer, Shows, Ends, Says, Answered, turned, takes, waits, answered, with_input, refuses}
use Rattle.bw_model.specs.Laws.{AreApart}
use Rattle.bw_model.specs.Received.{receives_of, first_refusal}
use Rattle.bw_model.specs.Sessions.{Live, Talk, World, now, current}
use Rattle.bw_model.specs.Steps.{refuses as refuses_all, reply_to, is_of, taken_out, asks, begins, beginner, starts}
use Rattle.bw_run.specs.declared.fields.FieldFault.{FieldFault}
use Rattle.bw_run.specs.declared.fields.FieldFault.TheVariants as fields
use Rattle.bw_user.specs.Laws.{is_missing}
use Rattle.bw_visit.specs.Visits.{is_amiss}
use Rattle.bw_world.specs.Changes.{refused}

-- ---- answers that miss nothing

abbrev quiet : Answer → Bool
quiet (Shows d turn) = false
quiet (Ends d) = false
quiet (Says reply) = is_amiss reply

reply_quiet : (service : Service) (number key : ℕ) (a : Answer) → quiet a ≡ false → is_amiss (reply_to service number key a) ≡ false
reply_quiet service number key (Shows d turn) h = refl
reply_quiet service number key (Ends d) h = refl
reply_quiet service number key (Says reply) h = h

turn_quiet : (number : ℕ) (talk : Talk) (o : Outcome) → quiet (turned number talk o).answer ≡ false
turn_quiet number talk (Went st) = refl
turn_quiet number talk (Shown at locals rests d shared units) = refl
turn_quiet number talk (Exited d shared units) = refl
turn_quiet number talk (Failed f units) = refl

takes_quiet : (service : Service) (first : ℕ) (talk : Talk) (form : Form) (shared : Values) (o : Option Reply) → ((r : Reply) → o ≡ Some r → is_amiss r ≡ false)
    → quiet (takes service first talk form shared o).answer ≡ false
takes_quiet service first talk form shared (Some r) h = h r refl
takes_quiet service first talk form shared None h = by_test (current first talk == 4294967295)
  where
    next : Talk
    next = with_input talk form shared

    by_test : (b : Bool) → quiet (if b then refuses replies.NoTurns else turned (suc (current first talk)) next (now service next)).answer ≡ false
    by_test true = refl
    by_test false = turn_quiet (suc (current first talk)) next (now service next)

-- no field that the show receives is missing in the form
abbrev pub Misses : Service → Talk → Form → Outcome → Type 0
Misses service talk form (Went st) = Unit {0}
Misses service talk form (Shown at locals rests d shared units) =
    (r : Reply) → first_refusal service (receives_of service talk.session at) locals form ≡ Some r → is_amiss r ≡ false
Misses service talk form (Exited d shared units) = Unit {0}
Misses service talk form (Failed f units) = Unit {0}

waits_quiet : (service : Service) (first : ℕ) (talk : Talk) (form : Form) (shared : Values) (o : Outcome) → Misses service talk form o
    → quiet (waits service first talk Post form shared o).answer ≡ false
waits_quiet service first talk form shared (Went st) h = refl
waits_quiet service first talk form shared (Shown at locals rests d after units) h =
    takes_quiet service first talk form shared (first_refusal service (receives_of service talk.session at) locals form) h
waits_quiet service first talk form shared (Exited d after units) h = refl
waits_quiet service first talk form shared (Failed f units) h = refl

answered_quiet : (service : Service) (first turn : ℕ) (talk : Talk) (form : Form) (shared : Values) → Misses service talk form (now service talk)
    → quiet (answered service first talk (record { method = Post; form = form; turn = turn; shared = shared })).answer ≡ false
answered_quiet service first turn talk form shared h = by_test (turn == current first talk)
  where
    by_test : (b : Bool)
        → quiet (if b then waits service first talk Post form shared (now service talk) else refuses (replies.Stale (current first talk))).answer ≡ false
    by_test true = waits_quiet service first talk form shared (now service talk) h
    by_test false = refl

-- ---- requests

pub asks_quiet : (service : Service) (w : World) (form : Form) (turn : ℕ) (o : Option (Live × List Live))
    → ((l : Live) (others : List Live) → o ≡ Some (l, others) → Misses service l.talk form (now service l.talk))
    → is_amiss (asks service w Post form turn o).reply ≡ false
asks_quiet service w form turn None h = refl
asks_quiet service w form turn (Some found) h =
    let l = found.0 in
    reply_quiet service l.number l.key (answered service w.first l.talk (record { method = Post; form = form; turn = turn; shared = w.shared })).answer
    (answered_quiet service w.first turn l.talk form w.shared (h found.0 found.1 refl))

pub starts_quiet : (service : Service) (w : World) (key : ℕ) (o : Option ℕ) → is_amiss (starts service w key o).reply ≡ false
starts_quiet service w key None = refl
starts_quiet service w key (Some session) = by_test (nat_lt 4294967295 w.next)
  where
    begun : Answered
    begun = turned w.first (beginner w session) (now service (beginner w session))

    by_test : (b : Bool) → is_amiss (if b then refuses_all w replies.NoNumbers else begins service w key begun).reply ≡ false
    by_test true = refl
    by_test false = reply_quiet service w.next key begun.answer (turn_quiet w.first (beginner w session) (now service (beginner w session)))

-- ---- the session that is meant

one_of : (m : Live) (ls : List Live) (s : Live) → Contains (m ∷ ls) s → (m ≡ s) ⊎ Contains ls s
one_of m ls s (zero, h, e) = inl e
one_of m ls s (suc k, h, e) = inr (k, omega (arith, h), e)

pub each : (P : Live → Type 0) (ls : List Live) (s : Live) → AllByRecursion P ls → Contains ls s → P s
each P [] s h c = absurd (omega (arith, c.1))
each P (m ∷ ls) s h c = by_test (one_of m ls s c) (each P ls s h.1)
  where
    by_test : (m ≡ s) ⊎ Contains ls s → (Contains ls s → P s) → P s
    by_test (inl e) later = subst P e h.0
    by_test (inr d) later = later d

own_of : (s : Live) → is_of s.number s.key s ≡ true
own_of s = grind (arith, nat_tests)

number_of : (n k : ℕ) (m : Live) → is_of n k m ≡ true → m.number ≡ n
number_of n k m h = grind (arith, nat_tests)

-- live sessions have numbers of their own, so that the one that is found is the one that is meant
pub one_live : (next : ℕ) (ls : List Live) (s : Live) → AreApart next ls → Contains ls s → (l : Live) (others : List Live)
    → taken_out s.number s.key ls ≡ Some (l, others) → l ≡ s
one_live next [] s a c l others e = absurd cc
one_live next (m ∷ ls) s a c l others e = by_test (is_of s.number s.key m) refl e (one_of m ls s c) (one_live next ls s a.2)
  where
    behind : Option (Live × List Live) → Option (Live × List Live)
    behind o = option_map {U = Live × List Live} (λ (found : Live × List Live). (found.0, m ∷ found.1)) o

    unmapped : (o : Option (Live × List Live)) → behind o ≡ Some (l, others) → (rest : List Live) × (o ≡ Some (l, rest))
    unmapped None f = absurd cc
    unmapped (Some x) f =
        let first : x.0 ≡ l = ap (λ (o : Option (Live × List Live)). (unwrap_or o x).0) f in
        (x.1, ap {B = Option (Live × List Live)} (λ a. Some (a, x.1)) first)

    by_test : (b : Bool) → is_of s.number s.key m ≡ b
        → (if b then Some (m, ls) else behind (taken_out s.number s.key ls)) ≡ Some (l, others)
        → (m ≡ s) ⊎ Contains ls s → (Contains ls s → (x : Live) (xs : List Live) → taken_out s.number s.key ls ≡ Some (x, xs) → x ≡ s) → l ≡ s
    by_test true t f (inl same) later = let g : m ≡ l = ap (λ (o : Option (Live × List Live)). (unwrap_or o (m, ls)).0) f in sym g ∙ same
    by_test true t f (inr d) later = absurd (each (λ x. x.number ≢ m.number) ls s a.1 d (sym (number_of s.number s.key m t)))
    by_test false t f (inl same) later =
        let g : true ≡ false = sym (own_of s) ∙ ap (is_of s.number s.key) (sym same) ∙ t in absurd cc
    by_test false t f (inr d) later = let u = unmapped (taken_out s.number s.key ls) f in later d l u.0 u.1

-- ---- refusals

pub not_said : (o : Option FieldFault) → is_missing o ≡ false → (r : Reply) → option_map refused o ≡ Some r → is_amiss r ≡ false
not_said None h r e = absurd cc
not_said (Some (fields.Lacking f)) h r e = absurd cc
not_said (Some (fields.Repeated f)) h r e = absurd cc
not_said (Some (fields.TooLong f)) h r e = let g : replies.FieldTooLong f ≡ r = cc in ap is_amiss (sym g)
