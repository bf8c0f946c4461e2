-- What the entries of a journal bring about.
use Rattle.std.specs.Prelude.{◌≡◌, ℕ, List, [], ◌∷◌, Ok}
use Rattle.bw_format.specs.declared.format.Format.{Format}
use Rattle.bw_http.specs.Cuts.{Cut}
use Rattle.bw_http.specs.declared.request.Request.{Request}
use Rattle.bw_journal.specs.Layout.{Entry}
use Rattle.bw_lang.specs.declared.service.Service.{Service}
use Rattle.bw_model.specs.Guards.{IsGuarded}
use Rattle.bw_model.specs.Sessions.{World}
use Rattle.bw_model.specs.Steps.{Step}

-- the bytes are one whole message, which sends this request
abbrev pub Sends : List ℕ → Request → Type 0
Sends message r = Cut message (Ok r) []

-- the message sends no request
abbrev pub SendsNone : List ℕ → Type 0
SendsNone message = (r : Request) → Sends message r → ⊥

-- the world that entries bring about, each request with its key and these formats of fields, one after another
abbrev pub Brings : List Format → Service → World → List Entry → World → Type 0
Brings formats service world [] to = to ≡ world
Brings formats service world (e ∷ es) to =
    (r : Request) × (s : Step) × Sends e.message r × IsGuarded formats service world r e.key s × Brings formats service s.world es to
