-- What is said to one session in a run of requests, and what it is answered.
use Rattle.std.specs.Prelude.{ℕ, ◌==◌, ◌&&◌, if◌then◌else◌, List, [], ◌∷◌, find, Option, Some, None}
use Rattle.bw_http.specs.declared.request.Method.TheVariants.{Get, Post, Other}
use Rattle.bw_http.specs.declared.request.Method as methods
use Rattle.bw_http.specs.declared.request.Path.{Path}
use Rattle.bw_http.specs.declared.request.Path.TheVariants as paths
use Rattle.bw_http.specs.declared.request.Request.{Request}
use Rattle.bw_lang.specs.declared.service.Service.{Service}
use Rattle.bw_meaning.specs.States.{Form}
use Rattle.bw_meaning.specs.Values.{Values}
use Rattle.bw_model.specs.Answers.{Answer, Fate, Stays, IsUsed, GoesOn, Leaves, Said}
use Rattle.bw_model.specs.Sessions.{Talk, Live, World}
use Rattle.bw_model.specs.Steps.{is_of, Answerer, step_by}

-- a request, and the key that is drawn for it
pub record Asked : Type 0 where
  pub request : Request
  pub key : ℕ

-- ---- in a run

-- what is said to a session, if the method is served
abbrev pub said_by : methods.Method → Form → ℕ → Values → Option Said
said_by Get form turn shared = Some (record { method = Get; form = form; turn = turn; shared = shared })
said_by Post form turn shared = Some (record { method = Post; form = form; turn = turn; shared = shared })
said_by Other form turn shared = None

-- what a request says to the session of this number and key, with these shared variables
abbrev pub said_at : ℕ → ℕ → methods.Method → Form → Values → Path → Option Said
said_at number key method form shared paths.Index = None
said_at number key method form shared (paths.Start name) = None
said_at number key method form shared (paths.Turn n k turn) = if number == n && key == k then said_by method form turn shared else None
said_at number key method form shared paths.Other = None

abbrev pub said_to : ℕ → ℕ → World → Asked → Option Said
said_to number key w a = said_at number key a.request.method a.request.form w.shared a.request.path

-- what is said and answered at one request and behind it, while the session lives
abbrev pub heard : Answerer → ℕ → Option Live → Option Said → List (Said × Answer) → List (Said × Answer)
heard ans first None said later = []
heard ans first (Some l) None later = later
heard ans first (Some l) (Some said) later = (said, (ans first l.talk said).answer) ∷ later

-- What is said to the session of this number and key, from this world on, with the answers, for as long as it is live:
-- it may exit, or give way to others.
abbrev pub conversation : Answerer → Service → ℕ → ℕ → World → List Asked → List (Said × Answer)
conversation ans service number key w [] = []
conversation ans service number key w (a ∷ asked) =
    heard ans w.first (find (is_of number key) w.live) (said_to number key w a)
    (conversation ans service number key (step_by ans service w a.request a.key).world asked)

-- ---- by the session's own meaning

-- what the session has come to then, if it is still there
abbrev pub next_talk : Talk → Fate → Option Talk
next_talk talk Stays = Some talk
next_talk talk IsUsed = Some talk
next_talk talk (GoesOn next shared) = Some next
next_talk talk (Leaves shared) = None

-- what a session is answered that hears nothing but this
abbrev pub own_answers : Answerer → ℕ → Option Talk → List Said → List Answer
own_answers ans first None saids = []
own_answers ans first (Some talk) [] = []
own_answers ans first (Some talk) (said ∷ saids) =
    (ans first talk said).answer ∷ own_answers ans first (next_talk talk (ans first talk said).fate) saids
