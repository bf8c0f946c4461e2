-- The facts of a service: its least solution, with the names of variables and the summaries of its pages.
use Rattle.std.specs.Prelude.{◌≡◌, ◌<◌, ◌^◌, ℕ, List, [], map, length, slice_get, slice_index_or, Option, Some, None}
use Rattle.bw_lang.specs.declared.service.Service.{Service}
use Rattle.bw_lang.specs.Table.Names.{name_number}
use Rattle.bw_lang.specs.Service.Term.{Term}
use Rattle.bw_flow.specs.declared.point.Local.{Local}
use Rattle.bw_flow.specs.Steps.{Act, sets, tests, goes_over, shows, exits, joins}
use Rattle.bw_strings.specs.Literals.{literals_of}
use Rattle.bw_sum.specs.declared.summary.Summary.{Summary}
use Rattle.bw_analyse.specs.declared.abstracts.Abstract.{Abstract}
use Rattle.bw_analyse.specs.declared.abstracts.Abstract.TheVariants.{Nothing, Str, Html}
use Rattle.bw_analyse.specs.declared.facts.Facts.{Facts}
use Rattle.bw_analyse.specs.Abstracts.{no_document}
use Rattle.bw_analyse.specs.Known.{of_name, of_local, look, known}
use Rattle.bw_flow.specs.Layout.{flow_of}
use Rattle.bw_analyse.specs.Rounds.{Placed, placed}
use Rattle.bw_analyse.specs.Solutions.{IsSolution}

-- the summary of a document, or that of no document
abbrev pub summary_of : Abstract → Summary
summary_of Nothing = no_document
summary_of (Str s) = no_document
summary_of (Html s) = s

-- the document that a point shows or ends with
abbrev pub page_of : Act → Option Term
page_of (shows e rs) = Some e
page_of (exits e) = Some e
page_of (sets v e) = None
page_of (tests e) = None
page_of (goes_over v e) = None
page_of joins = None

-- its summary, where names are known so
abbrev pub summary_at : Service → (List ℕ → Abstract) → Option Term → Option Summary
summary_at service names None = None
summary_at service names (Some e) = Some (summary_of (known service names e))

-- what names are known to be at a point, where f tells the rows
abbrev pub names_at : Service → (ℕ → List Abstract) → Placed → List ℕ → Abstract
names_at service f x = look service x.step.scope (f x.place) (f (length (flow_of service)))

-- the summaries of the pages of all points
abbrev pub pages_of : Service → (ℕ → List Abstract) → List (Option Summary)
pages_of service f = map (λ (x : Placed). summary_at service (names_at service f x) (page_of x.step.act)) (placed 0 (flow_of service))

-- the rows that the facts hold
abbrev pub rows_of : Facts → ℕ → List Abstract
rows_of facts p = slice_index_or facts.rows p []

-- these are the facts of the service
pub record AreFacts (service : Service) (facts : Facts) : Type 0 where
  pub scopes : facts.scopes.items ≡ map (λ x. x.scope) (flow_of service)
  pub variables : facts.variables.items ≡ map (λ v. v.name) service.shared
  pub few : length (literals_of service) < 2 ^ 32
  pub solution : IsSolution service facts.rows
  pub pages : facts.pages.items ≡ pages_of service (rows_of facts)
  pub title : facts.title ≡ name_number (literals_of service) service.name

-- what the facts tell of the local of that name, where these are the locals in scope
abbrev pub local_in : List Abstract → List ℕ → Option (List Local) → Option Abstract
local_in row w None = None
local_in row w (Some scope) = of_local scope row w

-- what the facts tell of a local at the point at a place
abbrev pub local_fact : Facts → ℕ → List ℕ → Option Abstract
local_fact facts p w = local_in (rows_of facts p) w (slice_get facts.scopes.items p)

-- and of a shared variable
abbrev pub shared_fact : Facts → List ℕ → Option Abstract
shared_fact facts w = of_name facts.variables.items (rows_of facts (length facts.scopes.items)) w

-- the summary, if there is a point and it has one
abbrev pub joined_option : Option (Option Summary) → Option Summary
joined_option None = None
joined_option (Some o) = o

-- and of the page of the point at a place
abbrev pub shown_fact : Facts → ℕ → Option Summary
shown_fact facts p = joined_option (slice_get facts.pages.items p)
