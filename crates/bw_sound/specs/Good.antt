-- Every page that an accepted service answers is good.
use Rattle.std.specs.Prelude.{◌≡◌, ℕ, List, [], ◌∷◌}
use Rattle.std.specs.List.{All, Contains}
use Rattle.bw_check.specs.Accepts.{Accepts}
use Rattle.bw_cover.specs.Received.{received_of}
use Rattle.bw_fields.specs.Received.{HasField}
use Rattle.bw_format.specs.declared.format.Format.{Format}
use Rattle.bw_http.specs.declared.replies.Reply.{Reply}
use Rattle.bw_http.specs.declared.replies.Reply.TheVariants as replies
use Rattle.bw_http.specs.declared.request.Path.TheVariants as paths
use Rattle.bw_http.specs.declared.request.Request.{Request}
use Rattle.bw_lang.specs.Service.Submissions.{IsTextForm}
use Rattle.bw_http.specs.Paths.{spelling}
use Rattle.bw_lang.specs.Document.Forest.{Forest}
use Rattle.bw_lang.specs.Document.Print.{print, joined}
use Rattle.bw_lang.specs.declared.service.Service.{Service}
use Rattle.bw_made.specs.Made.{IsItemsOf, IsPageOf}
use Rattle.bw_meaning.specs.States.{Form, Shown, Exited, Rests}
use Rattle.bw_meaning.specs.Values.{Document, Values}
use Rattle.bw_model.specs.Answers.{with_input}
use Rattle.bw_model.specs.Reached.{Reached}
use Rattle.bw_model.specs.Runs.{At, Turn}
use Rattle.bw_model.specs.Sessions.{Talk, Live, World, now, current}
use Rattle.bw_model.specs.Steps.{beginner, step}
use Rattle.bw_page.specs.Pages.{show_page, exit_page}
use Rattle.bw_read.specs.Pages.{IsPage}
use Rattle.bw_schema.specs.declared.schema.Schema.{Schema}
use Rattle.bw_schema.specs.Validity.{Valid}
use Rattle.bw_sound.specs.Worlds.{IsSoundWorld}

-- ---- pages

-- the bytes read as this page, as no other, and it is valid
pub record ReadsAsValid (schema : Schema) (body : List ℕ) (page : Forest) : Type 0 where
  pub reads : IsPage body page
  pub only : (other : Forest) → IsPage body other → other ≡ page
  pub valid : Valid schema page

-- The body is the page of a show at which a live session waits. The page is valid, and has each field that the show
-- receives; and the bytes read as it, with its texts joined.
pub record IsGoodShow (service : Service) (schema : Schema) (w : World) (body : List ℕ) : Type 0 where
  pub session : Live
  pub is_live : Contains w.live session
  pub at : ℕ
  pub locals : Values
  pub rests : Rests
  pub document : Document
  pub shared : Values
  pub units : ℕ
  pub waits : now service session.talk ≡ Shown at locals rests document shared units
  pub is_made : IsPageOf (IsItemsOf service) document
  pub page : Forest
  pub is_page : page ≡ show_page service.name (spelling (paths.Turn session.number session.key (current w.first session.talk))) document.tree
  pub is_body : body ≡ print page
  pub valid : Valid schema page
  pub fields : All (HasField service page) (received_of service session.talk.session at)
  pub reads : ReadsAsValid schema body (joined page)

-- a session that begins in the world, or a live session of it with one form more
pub data IsNext (w : World) : Talk → Type 0 where
  begins : (session : ℕ) → IsNext w (beginner w session)
  goes_on : (l : Live) (form : Form) → Contains w.live l → IsNext w (with_input l.talk form w.shared)

-- The body is the last page of a session that begins in this world, or goes on there with one form more. The page is
-- valid, and the bytes read as it, with its texts joined.
pub record IsGoodEnd (service : Service) (schema : Schema) (w : World) (body : List ℕ) : Type 0 where
  pub talk : Talk
  pub is_next : IsNext w talk
  pub document : Document
  pub shared : Values
  pub units : ℕ
  pub comes : now service talk ≡ Exited document shared units
  pub is_made : IsPageOf (IsItemsOf service) document
  pub page : Forest
  pub is_page : page ≡ exit_page service.name document.tree
  pub is_body : body ≡ print page
  pub valid : Valid schema page
  pub reads : ReadsAsValid schema body (joined page)

-- a reply with a page has a good one, where these are the worlds before it and after it; other replies have none
abbrev pub IsGood : Service → Schema → World → World → Reply → Type 0
IsGood service schema before after (replies.Page body) = IsGoodShow service schema after body
IsGood service schema before after (replies.Final body) = IsGoodEnd service schema before body
IsGood service schema before after reply = Unit {0}

-- ---- laws

-- In an accepted service, after any requests from a sound world on, the next reply is good.
abbrev pub PagesAreGood : Type 0
PagesAreGood =
    (service : Service) (schema : Schema) (from w : World) (request : Request) (key : ℕ) → Accepts service schema → IsSoundWorld service from
    → Reached service from w → IsTextForm request.form
    → IsGood service schema w (step service w request key).world (step service w request key).reply

-- So over a stream: whichever way its messages are handled from here on by these replies, with these formats of fields,
-- each of these is good.
abbrev pub AreGood : List Format → Service → Schema → At → List Reply → Type 0
AreGood formats service schema at [] = Unit {0}
AreGood formats service schema at (reply ∷ replies) =
    (cost : ℕ) (mid : At) → Turn formats service at reply cost mid → IsGood service schema at.world mid.world reply × AreGood formats service schema mid replies

abbrev pub RunsAreGood : Type 0
RunsAreGood =
    (formats : List Format) (service : Service) (schema : Schema) (at : At) (replies : List Reply) → Accepts service schema → IsSoundWorld service at.world
    → AreGood formats service schema at replies
