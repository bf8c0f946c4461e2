-- What is kept of a message that was handled.
use Rattle.std.specs.Prelude.{◌≡◌, true, List, [], ◌∷◌, ◌++◌}
use Rattle.bw_format.specs.declared.format.Format.{Format}
use Rattle.bw_http.specs.declared.request.Request.{Request}
use Rattle.bw_journal.specs.Layout.{Entry, Fits}
use Rattle.bw_lang.specs.declared.service.Service.{Service}
use Rattle.bw_model.specs.Guards.{IsGuarded}
use Rattle.bw_model.specs.Laws.{is_page}
use Rattle.bw_model.specs.Runs.{At}
use Rattle.bw_model.specs.Steps.{Step}
use Rattle.bw_bringing.specs.Bringing.{Sends}

-- what is kept of a message between two places of its stream: nothing where the world stays as it was, and its bytes with
-- its key where it is answered by a page
pub data IsEntered (formats : List Format) (service : Service) (at : At) (to : At) : List Entry → Type 0 where
  nothing : to.world ≡ at.world → IsEntered formats service at to []
  kept : (e : Entry) (r : Request) (s : Step) → at.bytes ≡ e.message ++ to.bytes → e.key ≡ at.keys 0 → Fits e → Sends e.message r
      → IsGuarded formats service at.world r e.key s → is_page s.reply ≡ true → to.world ≡ s.world → IsEntered formats service at to (e ∷ [])
