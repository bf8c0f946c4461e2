-- A worked example of a session: it shows a list, receives one string, and exits with a row that holds it.
use Rattle.std.specs.Prelude.{◌≡◌, ℕ, List, [], ◌∷◌, ◌++◌, length, codes}
use Rattle.bw_http.specs.declared.replies.Allow.TheVariants as methods
use Rattle.bw_http.specs.declared.replies.Reply.TheVariants as replies
use Rattle.bw_http.specs.declared.request.Method.{Method}
use Rattle.bw_http.specs.declared.request.Method.TheVariants.{Get, Post, Other}
use Rattle.bw_http.specs.declared.request.Path.{Path}
use Rattle.bw_http.specs.declared.request.Path.TheVariants as paths
use Rattle.bw_lang.specs.declared.service.Service.{Service}
use Rattle.bw_lang.specs.declared.stmt.Kind.TheVariants as kinds
use Rattle.bw_lang.specs.Service.Code.{done, declare, show, exit}
use Rattle.bw_lang.specs.Service.Term.{string, plug, no_more}
use Rattle.bw_meaning.specs.Samples.{of_session, list_name, row_name, with_n, x}
use Rattle.bw_meaning.specs.States.{Form}
use Rattle.bw_model.specs.Sessions.{World, empty}
use Rattle.bw_model.specs.Steps.{Step, step}

-- session go() { string x = ""; show List receive [x=f]; exit Row<[n=x]; }
abbrev pub service : Service
service = of_session
    (declare kinds.Str (codes "x") (string [])
    (show list_name (record { target = codes "x"; field = codes "f" } ∷ [])
    (exit (plug row_name (with_n x no_more)) done)))

-- a request in this world, for which the key 42 is drawn
abbrev pub asks : Method → Path → Form → World → Step
asks method path form w = step service w (record { method = method; path = path; form = form }) 42

abbrev pub start : Path
start = paths.Start (codes "go")

abbrev pub first_turn : Path
first_turn = paths.Turn 1 42 1

-- the form that gives f this value
abbrev pub f_is : List ℕ → Form
f_is value = (codes "f", value) ∷ []

-- where nothing was requested yet, and behind a start
abbrev pub before : World
before = empty service

abbrev pub waiting : World
waiting = (asks Get start [] before).world

pub record StartExamples : Type 0 where
  pub index : (asks Get paths.Index [] before).reply ≡ replies.Index (codes "go\n")
  pub no_session : (asks Get (paths.Start (codes "stay")) [] before).reply ≡ replies.NoSuch
  pub no_form_yet : (asks Post start [] before).reply ≡ replies.Method methods.Get
  pub first_page : (asks Get start [] before).reply ≡ replies.Page
      (codes "<html><head><title>Sample</title></head><body><form action=\"/s/1-000000000000002a/1\" method=\"post\"><ul></ul>"
      ++ codes "<p><input type=\"submit\" value=\"Continue\"/></p></form></body></html>")
  -- string x = ""; takes two units, show List two
  pub cost : (asks Get start [] before).cost ≡ 4
  pub one_lives : length waiting.live ≡ 1
  pub next_number : waiting.next ≡ 2

pub record TurnExamples : Type 0 where
  pub other_key : (asks Get (paths.Turn 1 43 1) [] waiting).reply ≡ replies.NoSuch
  pub other_turn : (asks Post (paths.Turn 1 42 2) (f_is (codes "a")) waiting).reply ≡ replies.Stale 1
  pub other_method : (asks Other first_turn [] waiting).reply ≡ replies.Method methods.GetPost
  pub again : (asks Get first_turn [] waiting).reply ≡ (asks Get start [] before).reply
  pub lacking : (asks Post first_turn [] waiting).reply ≡ replies.Lacking 0
  pub repeated : (asks Post first_turn ((codes "f", codes "a") ∷ (codes "f", codes "b") ∷ []) waiting).reply ≡ replies.Repeated 0
  pub last_page : (asks Post first_turn (f_is (codes "a<b")) waiting).reply ≡ replies.Final (codes
      "<html><head><title>Sample</title></head><body><li>a&lt;b</li></body></html>")
  -- exit Row<[n=x] takes four units
  pub cost : (asks Post first_turn (f_is (codes "a<b")) waiting).cost ≡ 4
  pub gone : (asks Post first_turn (f_is (codes "a<b")) waiting).world.live ≡ []
  pub no_number_left : (asks Get start [] (record before { next = 4294967296 })).reply ≡ replies.NoNumbers
