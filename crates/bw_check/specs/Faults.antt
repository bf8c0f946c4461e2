-- The faults of a service by a schema.
use Rattle.std.specs.Prelude.{◌≡◌, ◌⊎◌, ℕ, List, [], length, slice_get, Some, None}
use Rattle.std.specs.List.{Contains}
use Rattle.bw_analyse.specs.declared.facts.Facts.{Facts}
use Rattle.bw_analyse.specs.Facts.{page_of}
use Rattle.bw_analyse.specs.GapFaults.{IsGapFault}
use Rattle.bw_flow.specs.Layout.{flow_of}
use Rattle.bw_analyse.specs.Pages.{page_graph}
use Rattle.bw_faults.specs.declared.fault.Fault.{Fault}
use Rattle.bw_fields.specs.Received.{IsFieldFault}
use Rattle.bw_flow.specs.declared.point.Received.{Received}
use Rattle.bw_flow.specs.Steps.{Act, sets, tests, goes_over, shows, exits, joins, Step}
use Rattle.bw_judge.specs.Faults.{IsFault}
use Rattle.bw_lang.specs.declared.service.Service.{Service}
use Rattle.bw_schema.specs.declared.schema.Schema.{Schema}
use Rattle.bw_shape.specs.Outlines.{root_of}
use Rattle.bw_strings.specs.Literals.{literals_of}
use Rattle.bw_sum.specs.Graph.{Graph, graph}
use Rattle.bw_sum.specs.Templates.{template_items}

-- the fields that a point receives: those of a show
abbrev pub received_at : Act → List Received
received_at (sets v e) = []
received_at (tests e) = []
received_at (goes_over v e) = []
received_at (shows e rs) = rs
received_at (exits e) = []
received_at joins = []

-- the graph of the page at a place
abbrev pub page_at : Service → Facts → ℕ → Graph
page_at service facts p = graph (literals_of service) (page_graph service facts p)

-- a fault of an element of that page (1 to 7), where the statement there has number n
abbrev pub IsElementFault : Service → Schema → Facts → ℕ → ℕ → Fault → Type 0
IsElementFault service schema facts p n f =
    IsFault (template_items service) (page_at service facts p) (root_of (page_graph service facts p)) schema n f

-- a fault of a field that the statement there receives (8 to 10)
abbrev pub IsReceivedFault : Service → Facts → ℕ → Step → Fault → Type 0
IsReceivedFault service facts p x f =
    IsFieldFault (template_items service) (page_at service facts p) (length service.templates) service x.number (received_at x.act) f

-- a fault of the page at a place, where a show or an exit stands
abbrev pub IsPageFault : Service → Schema → Facts → ℕ → Fault → Type 0
IsPageFault service schema facts p f =
    (x : Step) × (slice_get (flow_of service) p ≡ Some x) × (page_of x.act ≡ None → ⊥)
    × (IsReceivedFault service facts p x f ⊎ IsElementFault service schema facts p x.number f)

-- of the page at one of these places
abbrev pub IsFaultOfSome : Service → Schema → Facts → List ℕ → Fault → Type 0
IsFaultOfSome service schema facts ps f = (p : ℕ) × Contains ps p × IsPageFault service schema facts p f

-- a fault of the service: of some page, or of a plug whose gap may be missing (11)
abbrev pub IsServiceFault : Service → Schema → Facts → Fault → Type 0
IsServiceFault service schema facts f = ((p : ℕ) × IsPageFault service schema facts p f) ⊎ IsGapFault service facts f
