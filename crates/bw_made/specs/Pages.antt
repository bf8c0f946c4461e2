-- The pages of documents that are made read back.
use Rattle.std.specs.Prelude.{◌≡◌, ℕ}
use Rattle.std.specs.List.{Contains}
use Rattle.bw_http.specs.declared.request.Path.TheVariants as paths
use Rattle.bw_http.specs.Paths.{spelling}
use Rattle.bw_lang.specs.declared.service.Service.{Service}
use Rattle.bw_lang.specs.Document.Print.{print, joined}
use Rattle.bw_lang.specs.Service.Reads.{IsReadable}
use Rattle.bw_meaning.specs.States.{Rests, Shown}
use Rattle.bw_meaning.specs.Values.{Document, Values}
use Rattle.bw_model.specs.Sessions.{Live, World, now}
use Rattle.bw_page.specs.Pages.{show_page, exit_page}
use Rattle.bw_read.specs.Made.{IsShown}
use Rattle.bw_read.specs.Pages.{IsPage}
use Rattle.bw_made.specs.Made.{IsItemsOf, IsPageOf}
use Rattle.bw_made.specs.Worlds.{IsTextWorld}

-- the document of a page is one of those that reading speaks of: made by plugs from items that some bytes read as
abbrev pub PagesAreShown : Type 0
PagesAreShown = (service : Service) (d : Document) → ∥ IsReadable service ∥₁ → IsPageOf (IsItemsOf service) d → ∥ IsShown d.tree ∥₁

-- the page that shows such a document to the client of a session, whatever the session's number, key and turn, reads as it,
-- with its texts joined
abbrev pub ShownPagesReadBack : Type 0
ShownPagesReadBack =
    (service : Service) (d : Document) (number key turn : ℕ) → ∥ IsReadable service ∥₁ → IsPageOf (IsItemsOf service) d →
    let page = show_page service.name (spelling (paths.Turn number key turn)) d.tree in IsPage (print page) (joined page)

-- and so does the page with which a session ends
abbrev pub LastPagesReadBack : Type 0
LastPagesReadBack =
    (service : Service) (d : Document) → ∥ IsReadable service ∥₁ → IsPageOf (IsItemsOf service) d →
    let page = exit_page service.name d.tree in IsPage (print page) (joined page)

-- the document at which a session of such a world waits is such a one
abbrev pub WaitingIsMade : Type 0
WaitingIsMade =
    (service : Service) (w : World) (l : Live) (at : ℕ) (locals : Values) (rests : Rests) (shown : Document) (shared : Values) (units : ℕ) →
    ∥ IsReadable service ∥₁ → IsTextWorld (IsItemsOf service) w → Contains w.live l → now service l.talk ≡ Shown at locals rests shown shared units →
    IsPageOf (IsItemsOf service) shown
