-- Outlines: the sets that they stand for, and what they have to be.
use Rattle.std.specs.Prelude.{◌≡◌, ◌⊎◌, ◌↔◌, ℕ, ◌+◌, ◌<◌, ◌==◌, Bool, true, ◌&&◌, List, [], ◌∷◌, length, slice_index_or}
use Rattle.std.specs.List.{list_any, All, Contains}
use Rattle.bw_lang.specs.declared.service.Service.{Service}
use Rattle.bw_lang.specs.Document.Forest.{Forest}
use Rattle.bw_lang.specs.Table.Names.{name_number, with_names, Extends}
use Rattle.bw_shape.specs.Rows.Rows.{at}
use Rattle.bw_schema.specs.declared.rules.Rule.{Rule}
use Rattle.bw_schema.specs.declared.schema.Schema.{Schema}
use Rattle.bw_strings.specs.Asking.{AreLiterals}
use Rattle.bw_strings.specs.Literals.{literals_of}
use Rattle.bw_sum.specs.Graph.{Graph, graph}
use Rattle.bw_sum.specs.Templates.{all_items, template_items}
use Rattle.bw_sum.specs.declared.summary.Summary.{Summary}
use Rattle.bw_types.specs.Fields.{field_names}
use Rattle.bw_shape.specs.declared.building.Graphed.{Graphed}
use Rattle.bw_shape.specs.Nodes.Fits.{Fits, AreStrings}
use Rattle.bw_shape.specs.Columns.{top_column}
use Rattle.bw_shape.specs.Exact.{HoldFacts, AreTables}
use Rattle.bw_shape.specs.Formulas.{schema_tags, schema_orders, pair_number, AreNamed}
use Rattle.bw_shape.specs.Shape.{Reached, Top, Gives, Has, Lacks, Doubles, Misses, Crossing}
use Rattle.bw_shape.specs.Tests.{tag_column}
use Rattle.bw_shape.specs.declared.naming.Named.{Named}
use Rattle.bw_shape.specs.declared.outline.Outline.{Outline}

-- the page graph of a service: it has one root, a wrapper, and names only templates of the service and the wrappers, and literals of the service
pub record IsPageGraph (service : Service) (page : Summary) : Type 0 where
  pub root : ((page.roots ≡ length service.templates ∷ []) ⊎ (page.roots ≡ (length service.templates + 1) ∷ []))
  pub edges : All (λ e. (e.0 < length service.templates + 2) × (e.2 < length service.templates + 2)) page.edges
  pub tracks : All (λ t. t.1 < length service.templates + 2) page.tracks
  pub texts : All (λ l. (l.0.0 < length service.templates + 2) × AreLiterals (literals_of service) l.1) page.texts

-- its root
abbrev pub root_of : Summary → ℕ
root_of page = slice_index_or page.roots 0 0

-- ---- the sets that an outline stands for

-- the template is reached
abbrev pub is_reached : Outline → ℕ → Bool
is_reached o n = list_any (λ m. m == n) o.tables.order.items

-- it may have this at its top
abbrev pub may_top : Outline → ℕ → Top → Bool
may_top o n x = is_reached o n && at o.tables.tops n (top_column o.tables.tags x)

-- it may have, may lack, may have twice the field
abbrev pub may_have : Outline → ℕ → ℕ → Bool
may_have o n f = is_reached o n && at o.tables.have n f

abbrev pub may_lack : Outline → ℕ → ℕ → Bool
may_lack o n f = is_reached o n && at o.tables.lack n f

abbrev pub may_have_twice : Outline → ℕ → ℕ → Bool
may_have_twice o n f = is_reached o n && at o.tables.twice n f

-- it may have no x at its top
abbrev pub may_miss : Outline → ℕ → List ℕ → Bool
may_miss o n x = is_reached o n && at o.tables.miss n (name_number o.tables.tags x)

-- it may have a y before an x at its top
abbrev pub may_cross : Outline → ℕ → List ℕ → List ℕ → Bool
may_cross o n x y = is_reached o n && at o.tables.cross n (pair_number o.pairs.items (tag_column o.tables.tags y, tag_column o.tables.tags x))

-- ---- what they have to be

-- the sets are exactly the shape of the graph, at the templates that are reached. What may miss and cross is asked of the tags that formulas name, and
-- of the pairs that they order
pub record AreFacts (templates : ℕ → Forest) (G : Graph) (root : ℕ) (names : List (List ℕ)) (rules : List Rule) (o : Outline) : Type 0 where
  pub reached : (n : ℕ) → (is_reached o n ≡ true) ↔ Reached G root n
  pub top : (n : ℕ) (x : Top) → (may_top o n x ≡ true) ↔ (Reached G root n × Gives templates G n (templates n) x)
  pub have : (n f : ℕ) → f < length names → (may_have o n f ≡ true) ↔ (Reached G root n × Has templates G names f n)
  pub lack : (n f : ℕ) → f < length names → (may_lack o n f ≡ true) ↔ (Reached G root n × Lacks templates G names f n (templates n))
  pub twice : (n f : ℕ) → f < length names → (may_have_twice o n f ≡ true) ↔ (Reached G root n × Doubles templates G names f n)
  pub miss : (n : ℕ) (x : List ℕ) → Contains (schema_tags rules) x → (may_miss o n x ≡ true) ↔ (Reached G root n × Misses templates G x n (templates n))
  pub cross : (n : ℕ) (x y : List ℕ) → Contains (schema_orders rules) (x, y) → (may_cross o n x y ≡ true)
      ↔ (Reached G root n × Crossing templates G x y n (templates n))

-- how the rows of flags keep them, as the walks of judging need it
pub record AreKept (templates : List Forest) (literals : List (List ℕ)) (G : Graph) (root : ℕ) (rules : List Rule) (o : Outline) : Type 0 where
  pub rows : length o.graphed.nodes.items ≡ length templates
  pub sayings : length o.graphed.said.items ≡ length templates
  pub small : All (λ n. n < length templates) o.tables.order.items
  pub reached : (n : ℕ) → Contains o.tables.order.items n ↔ Reached G root n
  pub tables : AreTables templates o.graphed.nodes.items G root o.first o.pairs.items o.tables.tags o.tables.tops o.tables.miss o.tables.cross
  pub strings : AreStrings o.graphed.said.items literals G
  pub named : (r : Rule) → Contains rules r → AreNamed o.tables.tags o.first o.pairs.items r.needs

-- the outline is the shape of the page graph, made for the formulas of the schema
pub record IsShape (service : Service) (page : Summary) (schema : Schema) (o : Outline) : Type 0 where
  pub facts : AreFacts (template_items service) (graph (literals_of service) page) (root_of page) (with_names [] (field_names service)) schema.elements o
  pub kept : AreKept (all_items service) (literals_of service) (graph (literals_of service) page) (root_of page) schema.elements o

-- the tables were made from these nodes, for these tags and pairs of formulas
pub record IsOutlined (templates : List Forest) (names : List (List ℕ)) (root : ℕ) (graphed : Graphed) (named : Named) (o : Outline) : Type 0 where
  pub nodes : o.graphed ≡ graphed
  pub pairs : o.pairs.items ≡ named.pairs.items
  pub first : o.first ≡ length named.tags
  pub front : Extends named.tags o.tables.tags
  pub small : All (λ n. n < length templates) o.tables.order.items
  pub facts : (G : Graph) → Fits graphed.nodes.items G → HoldFacts templates G root names (length named.tags) named.pairs.items o.tables
  pub tables : (G : Graph) → Fits graphed.nodes.items G
      → AreTables templates graphed.nodes.items G root (length named.tags) named.pairs.items o.tables.tags o.tables.tops o.tables.miss o.tables.cross
