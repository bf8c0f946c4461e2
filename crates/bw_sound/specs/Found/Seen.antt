-- The facts of a service, as facts of which the laws of covering speak.
use Rattle.std.specs.Prelude.{ℕ, Bool, true, false, ◌&&◌, nat_eq, List, [], length, Option, Some, None, slice_get}
use Rattle.std.specs.List.{position_or_len}
use Rattle.bw_lang.specs.declared.service.Service.{Service}
use Rattle.bw_flow.specs.declared.point.Local.{Local}
use Rattle.bw_flow.specs.Flows.{is_show}
use Rattle.bw_flow.specs.Steps.{Act, sets, tests, goes_over, shows, exits, joins, Step}
use Rattle.bw_strings.specs.Asking.{has_string}
use Rattle.bw_strings.specs.Literals.{literals_of}
use Rattle.bw_sum.specs.Graph.{Graph, graph}
use Rattle.bw_sum.specs.declared.summary.Summary.{Summary}
use Rattle.bw_cover.specs.Abstracts as cover
use Rattle.bw_cover.specs.Facts.{Facts}
use Rattle.bw_cover.specs.Least.{Cells}
use Rattle.bw_analyse.specs.declared.abstracts.Abstract.{Abstract}
use Rattle.bw_analyse.specs.declared.abstracts.Abstract.TheVariants.{Nothing, Str, Html}
use Rattle.bw_analyse.specs.declared.facts.Facts as own
use Rattle.bw_analyse.specs.Abstracts.{no_document}
use Rattle.bw_analyse.specs.Facts.{rows_of, shown_fact}
use Rattle.bw_analyse.specs.Known.{local_names, of_local, of_shared}
use Rattle.bw_flow.specs.Layout.{flow_of}

-- what is known, by its members: the strings, and the graph of a summary
abbrev pub seen : Service → Abstract → cover.Abstract
seen service Nothing = cover.Nothing
seen service (Str s) = cover.Strings (has_string (literals_of service) s)
seen service (Html s) = cover.Html (graph (literals_of service) s)

-- of what isn't there nothing is known
abbrev pub seen_some : Service → Option Abstract → cover.Abstract
seen_some service None = cover.Nothing
seen_some service (Some a) = seen service a

-- the locals in scope at a place
abbrev pub scope_of : Option Step → List Local
scope_of None = []
scope_of (Some x) = x.scope

-- the cells that rows hold
abbrev pub cells_of : Service → (ℕ → List Abstract) → Cells ℕ
cells_of service f = record {
  local = λ p w. seen_some service (of_local (scope_of (slice_get (flow_of service) p)) (f p) w);
  shared = λ w. seen_some service (of_shared service.shared (f (length (flow_of service))) w);
}

-- the graph of a summary, if there is one
abbrev pub graph_of : Service → Option Summary → Graph
graph_of service None = graph (literals_of service) no_document
graph_of service (Some s) = graph (literals_of service) s

-- whether a point ends its session
abbrev pub ends : Act → Bool
ends (exits e) = true
ends (sets v e) = false
ends (tests e) = false
ends (goes_over v e) = false
ends (shows e rs) = false
ends joins = false

abbrev pub ends_at : Option Step → Bool
ends_at None = false
ends_at (Some x) = ends x.act

-- whether it is the show of this number
abbrev pub is_show_of : ℕ → Step → Bool
is_show_of k x = nat_eq x.number k && is_show x.act

-- the place of the show of this number, or one behind the flow where no show has it
abbrev pub place_of : Service → ℕ → ℕ
place_of service k = position_or_len (is_show_of k) (flow_of service)

-- what rows and the summaries of pages tell about the places of the flow
abbrev pub facts_of : Service → (ℕ → List Abstract) → (ℕ → Option Summary) → Facts ℕ
facts_of service f pages = record {
  scope = λ p. local_names (scope_of (slice_get (flow_of service) p));
  local = (cells_of service f).local;
  shared = (cells_of service f).shared;
  shown = λ p. graph_of service (pages p);
  is_exit = λ p. ends_at (slice_get (flow_of service) p);
  place = place_of service;
}

-- so what the facts of a service tell
abbrev pub known_of : Service → own.Facts → Facts ℕ
known_of service facts = facts_of service (rows_of facts) (shown_fact facts)
