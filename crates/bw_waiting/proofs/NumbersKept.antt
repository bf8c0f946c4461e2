-- The numbers, keys and turns of live sessions are those of paths.
use Rattle.std.proofs.Common.{◌≡◌, ◌<◌, ◌≤◌, ◌+◌, ◌^◌, ℕ, suc, Bool, true, false, List, [], ◌∷◌, ◌++◌, length, Option, Some, None, refl, sym, subst, arith}
use Rattle.std.specs.Prelude.{◌==◌, nat_lt, if◌then◌else◌}
use Rattle.std.specs.List.{AllByRecursion}
use Rattle.std.proofs.lemmas.Bool.Decides.{nat_tests}
use Rattle.std.proofs.lemmas.List.{length-append}
use Rattle.bw_http.specs.Paths.{IsCount, IsForm}
use Rattle.bw_http.specs.declared.replies.Reply.{Reply}
use Rattle.bw_http.specs.declared.replies.Reply.TheVariants as replies
use Rattle.bw_http.specs.declared.request.Method.{Method}
use Rattle.bw_http.specs.declared.request.Method.TheVariants.{Get, Post, Other}
use Rattle.bw_http.specs.declared.request.Path.{Path}
use Rattle.bw_http.specs.declared.request.Path.TheVariants as paths
use Rattle.bw_http.specs.declared.request.Request.{Request}
use Rattle.bw_lang.specs.declared.service.Service.{Service}
use Rattle.bw_meaning.specs.States.{Form, Input, Outcome, Went, Shown, Exited, Failed}
use Rattle.bw_meaning.specs.Values.{Values}
use Rattle.bw_model.proofs.Found.{IsOut, no_session, session as a_session, out, out_all}
use Rattle.bw_model.proofs.Keeping.{all_take}
use Rattle.bw_model.proofs.Kept.{by_path}
use Rattle.bw_model.specs.Answers.{Answered, Fate, Stays, IsUsed, GoesOn, Leaves, refuses as no_answer, turned, with_input, takes, waits, answered}
use Rattle.bw_model.specs.Received.{first_refusal, receives_of}
use Rattle.bw_model.specs.Sessions.{Talk, Live, World, empty, now, begins_at, current}
use Rattle.bw_model.specs.Steps.{Step, refuses, fated, founded, beginner, begins, starts, asks, taken_out, step}
use Rattle.bw_waiting.specs.Worlds.{IsNumberedWorld, NumbersStay}

strictly : (a b : ℕ) → a ≤ b → (a == b) ≡ false → a < b
strictly a b l f = grind (arith, nat_tests)

not_below : (a b : ℕ) → nat_lt a b ≡ false → b ≤ a
not_below a b f = grind (arith, nat_tests)

-- below the greatest number, the next one is a number too
next_counts : (n : ℕ) → IsCount n → (n == 4294967295) ≡ false → IsCount (n + 1)
next_counts n h e = let below = strictly n 4294967295 (omega (arith, h.1)) e in (omega arith, omega (arith, below))

starts_count : (n : ℕ) → 0 < n → nat_lt 4294967295 n ≡ false → IsCount n
starts_count n h e = let most = not_below 4294967295 n e in (h, omega (arith, most))

one_more : (first : ℕ) (talk : Talk) (form : Form) (shared : Values) → current first (with_input talk form shared) ≡ current first talk + 1
one_more first talk form shared =
    omega (arith, length-append talk.inputs (record { form = form; shared = shared } ∷ []))

module _ (service : Service) (w : World) (h : IsNumberedWorld w) where
  abbrev Fits : Live → Type 0
  Fits l = IsForm (paths.Turn l.number l.key (current w.first l.talk))

  -- where the session goes on, its next turn counts
  abbrev FateFits : Fate → Type 0
  FateFits Stays = Unit {0}
  FateFits IsUsed = Unit {0}
  FateFits (GoesOn talk shared) = IsCount (current w.first talk)
  FateFits (Leaves shared) = Unit {0}

  turned_fits : (number : ℕ) (talk : Talk) (o : Outcome) → IsCount (current w.first talk) → FateFits (turned number talk o).fate
  turned_fits number talk (Went st) c = tt
  turned_fits number talk (Shown at locals rests shown shared units) c = c
  turned_fits number talk (Exited last shared units) c = tt
  turned_fits number talk (Failed f units) c = tt

  takes_fits : (talk : Talk) (form : Form) (r : Option Reply) → IsCount (current w.first talk) → FateFits (takes service w.first talk form w.shared r).fate
  takes_fits talk form (Some reply) c = tt
  takes_fits talk form None c = by_test (current w.first talk == 4294967295) refl
    where
      next : Talk
      next = with_input talk form w.shared

      by_test : (b : Bool) → (current w.first talk == 4294967295) ≡ b
          → FateFits (if b then no_answer replies.NoTurns else turned (suc (current w.first talk)) next (now service next)).fate
      by_test true e = tt
      by_test false e =
          turned_fits (suc (current w.first talk)) next (now service next)
          (subst IsCount (sym (one_more w.first talk form w.shared)) (next_counts (current w.first talk) c e))

  waits_fits : (talk : Talk) (method : Method) (form : Form) (o : Outcome) → IsCount (current w.first talk)
      → FateFits (waits service w.first talk method form w.shared o).fate
  waits_fits talk Get form (Went st) c = tt
  waits_fits talk Get form (Shown at locals rests shown shared units) c = tt
  waits_fits talk Get form (Exited last shared units) c = tt
  waits_fits talk Get form (Failed x units) c = tt
  waits_fits talk Post form (Went st) c = tt
  waits_fits talk Post form (Shown at locals rests shown shared units) c =
      takes_fits talk form (first_refusal service (receives_of service talk.session at) locals form) c
  waits_fits talk Post form (Exited last shared units) c = tt
  waits_fits talk Post form (Failed x units) c = tt
  waits_fits talk Other form (Went st) c = tt
  waits_fits talk Other form (Shown at locals rests shown shared units) c = tt
  waits_fits talk Other form (Exited last shared units) c = tt
  waits_fits talk Other form (Failed x units) c = tt

  answered_fits : (talk : Talk) (method : Method) (form : Form) (turn : ℕ) → IsCount (current w.first talk)
      → FateFits (answered service w.first talk (record { method = method; form = form; turn = turn; shared = w.shared })).fate
  answered_fits talk method form turn c = by_test (turn == current w.first talk)
    where
      by_test : (b : Bool)
          → FateFits (if b then waits service w.first talk method form w.shared (now service talk) else no_answer (replies.Stale (current w.first talk))).fate
      by_test true = waits_fits talk method form (now service talk) c
      by_test false = tt

  -- ---- worlds

  fated_fits : (l : Live) (others : List Live) (fate : Fate) → Fits l → AllByRecursion Fits others → FateFits fate → IsNumberedWorld (fated w l others fate)
  fated_fits l others Stays u us c = h
  fated_fits l others IsUsed u us c = record { next = h.next; first = h.first; live = (u, us) }
  fated_fits l others (GoesOn talk shared) u us c = record { next = h.next; first = h.first; live = ((u.0, u.1, c), us) }
  fated_fits l others (Leaves shared) u us c = record { next = h.next; first = h.first; live = us }

  asked : (method : Method) (form : Form) (turn number key : ℕ) (o : Option (Live × List Live)) → IsOut number key w.live o
      → IsNumberedWorld (asks service w method form turn o).world
  asked method form turn number key None i = h
  asked method form turn number key (Some _) (a_session l others o) =
      let u = out_all Fits number key w.live l others o h.live in
      fated_fits l others (answered service w.first l.talk (record { method = method; form = form; turn = turn; shared = w.shared })).fate u.0 u.1
      (answered_fits l.talk method form turn u.0.2)

  module _ (key : ℕ) (small : key < 2 ^ 64) where
    founded_fits : (fate : Fate) → IsCount w.next → FateFits fate → IsNumberedWorld (founded w key fate)
    founded_fits Stays n c = h
    founded_fits IsUsed n c = h
    founded_fits (GoesOn talk shared) n c = record {
      next = omega (arith, h.next);
      first = h.first;
      live = all_take Fits 1000 (record { number = w.next; key = key; talk = talk } ∷ w.live) ((n, small, c), h.live);
    }
    founded_fits (Leaves shared) n c = record { next = h.next; first = h.first; live = h.live }

    started : (o : Option ℕ) → IsNumberedWorld (starts service w key o).world
    started None = h
    started (Some s) = by_test (nat_lt 4294967295 w.next) refl
      where
        by_test : (b : Bool) → nat_lt 4294967295 w.next ≡ b
            → IsNumberedWorld
            (if b then refuses w replies.NoNumbers else begins service w key (turned w.first (beginner w s) (now service (beginner w s)))).world
        by_test true e = h
        by_test false e =
            founded_fits (turned w.first (beginner w s) (now service (beginner w s))).fate (starts_count w.next h.next e)
            (turned_fits w.first (beginner w s) (now service (beginner w s)) (subst IsCount (plus_none w.first) h.first))
          where
            plus_none : (n : ℕ) → n ≡ n + 0
            plus_none n = omega arith

    stepped : (request : Request) → IsNumberedWorld (step service w request key).world
    stepped request =
        by_path (answered service) (λ s. IsNumberedWorld s.world) service w request.method request.form key request.path (λ reply. h) started
        (λ method turn number k. asked method request.form turn number k (taken_out number k w.live) (out number k w.live))

pub numbers_stay : NumbersStay
numbers_stay service = (
  record { next = omega arith; first = (omega arith, omega arith); live = tt },
  λ w request key small h. stepped service w h key small request,
)
