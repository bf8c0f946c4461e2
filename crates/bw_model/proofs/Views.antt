-- What one step comes to.
use Rattle.std.proofs.Common.{◌≡◌, ℕ, suc, Bool, true, false, List, Option, Some, None, refl}
use Rattle.std.specs.Prelude.{◌==◌, nat_lt, if◌then◌else◌}
use Rattle.bw_http.specs.declared.replies.Reply.{Reply}
use Rattle.bw_http.specs.declared.replies.Reply.TheVariants as replies
use Rattle.bw_http.specs.declared.request.Method.{Method}
use Rattle.bw_http.specs.declared.request.Method.TheVariants.{Get, Post, Other}
use Rattle.bw_http.specs.declared.request.Path.{Path}
use Rattle.bw_http.specs.declared.request.Path.TheVariants as paths
use Rattle.bw_http.specs.declared.request.Request.{Request}
use Rattle.bw_lang.specs.declared.service.Service.{Service}
use Rattle.bw_meaning.specs.States.{Form, Outcome, Went, Shown, Exited, Failed, Rests}
use Rattle.bw_meaning.specs.Values.{Document, Values}
use Rattle.bw_model.specs.Answers.{Shows, IsUsed, refuses as no_answer, turned, takes, waits, with_input, answered}
use Rattle.bw_model.specs.Laws.{is_page}
use Rattle.bw_model.specs.Received.{receives_of, first_refusal}
use Rattle.bw_model.specs.Sessions.{Live, World, now, current}
use Rattle.bw_model.specs.Steps.{Step, refuses, visits, begins, starts, asks, beginner, taken_out, on_path, step}
use Rattle.bw_model.proofs.Found.{Out, IsOut, no_session, session as a_session, out}
use Rattle.bw_model.proofs.Refused.{OfRefusal, of_first}
use Rattle.bw_types.specs.Scopes.{session_of}

-- A request is refused, which leaves the world; the page at which a live session waits is sent again; a session begins; or
-- a live session has one form more.
pub data View (service : Service) (w : World) (form : Form) : Step → Type 0 where
  refused : (reply : Reply) → is_page reply ≡ false → View service w form (refuses w reply)
  again : (l : Live) (others : List Live) (number key at : ℕ) (locals : Values) (rests : Rests) (d : Document) (shared : Values) (units : ℕ)
      → Out number key w.live l others → now service l.talk ≡ Shown at locals rests d shared units
      → View service w form (visits service w l others (record { answer = Shows d (current w.first l.talk); fate = IsUsed; cost = 0 }))
  begun : (key session : ℕ) (o : Outcome) → now service (beginner w session) ≡ o
      → View service w form (begins service w key (turned w.first (beginner w session) o))
  gone_on : (l : Live) (others : List Live) (number key : ℕ) (o : Outcome) → Out number key w.live l others
      → now service (with_input l.talk form w.shared) ≡ o
      → View service w form (visits service w l others (turned (suc (current w.first l.talk)) (with_input l.talk form w.shared) o))

module _ (service : Service) (w : World) (form : Form) where
  started : (key : ℕ) (o : Option ℕ) → View service w form (starts service w key o)
  started key None = refused replies.NoSuch refl
  started key (Some s) = by_test (nat_lt 4294967295 w.next)
    where
      by_test : (b : Bool) →
          View service w form (if b then refuses w replies.NoNumbers else begins service w key (turned w.first (beginner w s) (now service (beginner w s))))
      by_test true = refused replies.NoNumbers refl
      by_test false = begun key s (now service (beginner w s)) refl

  module _ (l : Live) (others : List Live) (number key : ℕ) (o : Out number key w.live l others) where
    took : (r : Option Reply) → OfRefusal (λ reply. is_page reply ≡ false) (λ f. refl) (λ f. refl) (λ f. refl) r →
        View service w form (visits service w l others (takes service w.first l.talk form w.shared r))
    took (Some reply) h = refused reply h
    took None h = by_test (current w.first l.talk == 4294967295)
      where
        by_test : (b : Bool) →
            View service w form (visits service w l others (if b then no_answer replies.NoTurns else turned (suc (current w.first l.talk))
            (with_input l.talk form w.shared) (now service (with_input l.talk form w.shared))))
        by_test true = refused replies.NoTurns refl
        by_test false = gone_on l others number key (now service (with_input l.talk form w.shared)) o refl

    waited : (method : Method) (x : Outcome) → now service l.talk ≡ x →
        View service w form (visits service w l others (waits service w.first l.talk method form w.shared x))
    waited Get (Shown at locals rests d shared units) e = again l others number key at locals rests d shared units o e
    waited Post (Shown at locals rests d shared units) e =
        let rs = receives_of service l.talk.session at in
        took (first_refusal service rs locals form) (of_first (λ reply. is_page reply ≡ false) (λ f. refl) (λ f. refl) (λ f. refl) service rs locals form)
    waited Other (Shown at locals rests d shared units) e = refused replies.NoSuch refl
    waited Get (Went st) e = refused replies.NoSuch refl
    waited Get (Exited d shared units) e = refused replies.NoSuch refl
    waited Get (Failed f units) e = refused replies.NoSuch refl
    waited Post (Went st) e = refused replies.NoSuch refl
    waited Post (Exited d shared units) e = refused replies.NoSuch refl
    waited Post (Failed f units) e = refused replies.NoSuch refl
    waited Other (Went st) e = refused replies.NoSuch refl
    waited Other (Exited d shared units) e = refused replies.NoSuch refl
    waited Other (Failed f units) e = refused replies.NoSuch refl

    visited : (method : Method) (turn : ℕ) → View service w form
        (visits service w l others (answered service w.first l.talk (record { method = method; form = form; turn = turn; shared = w.shared })))
    visited method turn = by_test (turn == current w.first l.talk)
      where
        by_test : (b : Bool) →
            View service w form (visits service w l others (if b then waits service w.first l.talk method form w.shared (now service l.talk) else no_answer
            (replies.Stale (current w.first l.talk))))
        by_test true = waited method (now service l.talk) refl
        by_test false = refused (replies.Stale (current w.first l.talk)) refl

  asked : (method : Method) (turn number key : ℕ) (o : Option (Live × List Live)) → IsOut number key w.live o →
      View service w form (asks service w method form turn o)
  asked method turn number key None (no_session none) = refused replies.NoSuch refl
  asked method turn number key (Some _) (a_session l others o) = visited l others number key o method turn

  on : (method : Method) (key : ℕ) (path : Path) → View service w form (on_path service w method form key path)
  on method key paths.Other = refused replies.NoSuch refl
  on Get key paths.Index = refused _ refl
  on Post key paths.Index = refused _ refl
  on Other key paths.Index = refused _ refl
  on Get key (paths.Start name) = started key (session_of service name)
  on Post key (paths.Start name) = refused _ refl
  on Other key (paths.Start name) = refused _ refl
  on Get key (paths.Turn number k turn) = asked Get turn number k (taken_out number k w.live) (out number k w.live)
  on Post key (paths.Turn number k turn) = asked Post turn number k (taken_out number k w.live) (out number k w.live)
  on Other key (paths.Turn number k turn) = refused _ refl

pub viewed : (service : Service) (w : World) (request : Request) (key : ℕ) → View service w request.form (step service w request key)
viewed service w request key = on service w request.form request.method key request.path
