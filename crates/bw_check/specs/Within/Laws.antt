-- The laws of the facts of a service, and of its pages.
use Rattle.std.specs.Prelude.{◌≡◌, ℕ, List, slice_get, Some}
use Rattle.std.specs.List.{All}
use Rattle.bw_analyse.specs.declared.facts.Facts.{Facts}
use Rattle.bw_analyse.specs.Facts.{AreFacts}
use Rattle.bw_flow.specs.Layout.{flow_of}
use Rattle.bw_analyse.specs.Pages.{HasPage, page_graph}
use Rattle.bw_fields.specs.Received.{IsReceived}
use Rattle.bw_flow.specs.declared.point.Received.{Received}
use Rattle.bw_flow.specs.Steps.{Step, shows}
use Rattle.bw_lang.specs.declared.service.Service.{Service}
use Rattle.bw_lang.specs.Service.Term.{Term}
use Rattle.bw_shape.specs.Outlines.{IsPageGraph}

-- there is one solution: facts of the same service have the same rows and the same pages
abbrev pub FactsAreOne : Service → Type 0
FactsAreOne service = (f g : Facts) → AreFacts service f → AreFacts service g → (f.rows ≡ g.rows) × (f.pages.items ≡ g.pages.items)

-- the page of each show and exit is a page graph of the service
abbrev pub PagesAreGraphs : Service → Type 0
PagesAreGraphs service = (facts : Facts) (p : ℕ) → AreFacts service facts → HasPage service p → IsPageGraph service (page_graph service facts p)

-- what the show at a place receives has its numbers
abbrev pub ReceivedHaveNumbers : Service → Type 0
ReceivedHaveNumbers service =
    (p : ℕ) (x : Step) (e : Term) (rs : List Received) → slice_get (flow_of service) p ≡ Some x → x.act ≡ shows e rs → All (IsReceived service) rs
