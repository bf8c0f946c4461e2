-- The edges that are read from the statements lead where the points of the flow lead.
use Rattle.std.specs.Prelude.{◌≡◌, List, [], flat_map, Option, Some, None}
use Rattle.bw_lang.specs.declared.service.Service.{Service}
use Rattle.bw_flow.specs.Layout.{plan_of}
use Rattle.bw_flow.specs.Leads as leads
use Rattle.bw_cover.specs.Facts.{Edge}
use Rattle.bw_cover.specs.Least.{service_edges}
use Rattle.bw_cover.specs.Spots.{Spot, statement, meeting, out}

-- the point of the flow; behind a session's end there is none
abbrev pub point_of : Spot → Option leads.Spot
point_of (statement n) = Some (leads.statement n)
point_of (meeting n) = Some (leads.meeting n)
point_of out = None

-- from a point to a point, where both are in the flow
abbrev pub between : Option leads.Spot → Option leads.Spot → List (leads.Spot × leads.Spot)
between None q = []
between (Some p) q = leads.from p q

-- from which point to which each of these leads
abbrev pub ends : List (Edge Spot) → List (leads.Spot × leads.Spot)
ends es = flat_map (λ (e : Edge Spot). between (point_of e.from) (point_of e.to)) es

-- they are the pairs that the flow's own reading of the statements gives, and its next points
abbrev pub EdgesAreLeads : Type 0
EdgesAreLeads = (service : Service) → ends (service_edges service.sessions 1) ≡ leads.service_leads service.sessions 1

-- so they are the next points of the flow itself
abbrev pub EdgesAreNexts : Type 0
EdgesAreNexts = (service : Service) → let flow = (plan_of service).steps in ends (service_edges service.sessions 1) ≡ leads.nexts flow flow
