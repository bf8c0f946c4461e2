-- Laws of what a scripted user sends.
use Rattle.std.specs.Prelude.{◌≡◌, ℕ, ◌<◌, ◌^◌, Bool, true, false, List, [], length, Option, None, Some, Ok}
use Rattle.std.specs.List.{All}
use Rattle.bw_fields.specs.Received.{HasField}
use Rattle.bw_flow.specs.declared.point.Received.{Received}
use Rattle.bw_http.specs.Cuts.{Cut}
use Rattle.bw_http.specs.Forms.{form_of}
use Rattle.bw_http.specs.Paths.{IsForm, spelling}
use Rattle.bw_http.specs.Replies.{bytes_of}
use Rattle.bw_http.specs.declared.replies.Reply.TheVariants as replies
use Rattle.bw_http.specs.declared.request.Method.TheVariants.{Get, Post}
use Rattle.bw_http.specs.declared.request.Path.TheVariants.{Start, Turn}
use Rattle.bw_http.specs.declared.request.Request.{Request}
use Rattle.bw_lang.specs.Document.Forest.{Forest}
use Rattle.bw_lang.specs.Service.Submissions.{IsTextForm}
use Rattle.bw_lang.specs.Template.Controls.{fields}
use Rattle.bw_lang.specs.declared.service.Service.{Service}
use Rattle.bw_meaning.specs.States.{Form}
use Rattle.bw_run.specs.Missing.{first_missing}
use Rattle.bw_run.specs.declared.fields.FieldFault.{FieldFault}
use Rattle.bw_run.specs.declared.fields.FieldFault.TheVariants.{Lacking, Repeated, TooLong}
use Rattle.bw_agent.specs.Controls.{controls}
use Rattle.bw_agent.specs.Filled.{body_of, filled}
use Rattle.bw_agent.specs.Laws.{ArePairsOfText}
use Rattle.bw_user.specs.Messages.{get, post, body_in}

-- ---- messages

-- where a GET of a session's start is read as a request, it is this one
abbrev pub GetsAreRead : Type 0
GetsAreRead =
    (name rest : List ℕ) (r : Request) → IsForm (Start name) → Cut (get (spelling (Start name))) (Ok r) rest
    → r ≡ record { method = Get; path = Start name; form = [] }

-- so is a POST to a session's turn, with the form that its body spells
abbrev pub PostsAreRead : Type 0
PostsAreRead =
    (number key turn : ℕ) (body rest : List ℕ) (r : Request) → IsForm (Turn number key turn) → length body < 2 ^ 64
    → Cut (post (spelling (Turn number key turn)) body) (Ok r) rest
    → r ≡ record { method = Post; path = Turn number key turn; form = form_of body }

-- ---- bodies

-- the body of names and values in UTF-8 is read as the same pairs
abbrev pub BodiesReadBack : Type 0
BodiesReadBack = (pairs : Form) → ArePairsOfText pairs → form_of (body_of pairs) ≡ pairs

-- the values that are read from bytes are UTF-8, whatever the bytes
abbrev pub AnswersAreText : Type 0
AnswersAreText = (bytes : List ℕ) → IsTextForm (form_of bytes)

-- the page of a reply is its body
abbrev pub PagesAreBodies : Type 0
PagesAreBodies = (names : List (List ℕ)) (page : List ℕ) → length page < 2 ^ 64 → body_in (bytes_of names (replies.Page page)) ≡ page

-- ---- fields

-- a field is lacking, or is there twice where it is due once
abbrev pub is_missing : Option FieldFault → Bool
is_missing None = false
is_missing (Some (Lacking field)) = true
is_missing (Some (Repeated field)) = true
is_missing (Some (TooLong field)) = false

-- Where a page has each received field, and these items have all fields of the page, then the form that they are filled in
-- to misses none of them, whatever is answered.
abbrev pub FilledMissesNone : Type 0
FilledMissesNone =
    (service : Service) (page items : Forest) (received : List Received) (answers : Form) → All (HasField service page) received
    → fields items ≡ fields page → is_missing (first_missing received (filled (controls items) answers)) ≡ false
