-- The faults of a page graph, by its tables.
use Rattle.std.specs.Prelude.{◌≡◌, ◌⊎◌, ◌↔◌, ℕ, ◌==◌, true, ◌&&◌, List, [], slice_index_or}
use Rattle.std.specs.List.{list_any, Contains}
use Rattle.bw_lang.specs.Document.Forest.{Forest, none, element}
use Rattle.bw_lang.specs.declared.items.Attr.{Attr}
use Rattle.bw_schema.specs.declared.rules.Rule.{Rule}
use Rattle.bw_sum.specs.Graph.{Graph}
use Rattle.bw_shape.specs.Shape.{Reached}
use Rattle.bw_shape.specs.Exact.{AreTables}
use Rattle.bw_shape.specs.Formulas.{AreNamed}
use Rattle.bw_strings.specs.declared.strings.StrSet.{StrSet}
use Rattle.bw_strings.specs.Asking.{has_string}
use Rattle.bw_schema.specs.declared.schema.Schema.{Schema}
use Rattle.bw_faults.specs.declared.fault.Fault.{Fault}
use Rattle.bw_faults.specs.Lists.{OfSome}
use Rattle.bw_shape.specs.Nodes.Fits.{AreStrings}
use Rattle.bw_shape.specs.Nodes.Nodes.{Node, node_at, among}
use Rattle.bw_shape.specs.Nodes.Templates.{template_at}
use Rattle.bw_shape.specs.declared.outline.Outline.{Outline}
use Rattle.bw_shape.specs.declared.tables.Tables.{Tables}
use Rattle.bw_judge.specs.Scene.{Scene}
use Rattle.bw_judge.specs.Found.{OfElement, OfForest, OfRoot}

-- what is known of a template
abbrev pub scene_at : List Node → List (List (ℕ × StrSet)) → List (List ℕ) → Tables → List (ℕ × ℕ) → ℕ → Scene
scene_at nodes said literals o pairs n = record {
  tags = o.tags;
  literals = literals;
  tops = o.tops;
  miss = o.miss;
  cross = o.cross;
  pairs = pairs;
  node = node_at nodes n;
  said = slice_index_or said n [];
}

-- of the elements of template n
abbrev pub OfTemplate : List Forest → List Node → List (List (ℕ × StrSet)) → List (List ℕ) → Tables → List (ℕ × ℕ) → Schema → ℕ → ℕ → Fault → Type 0
OfTemplate templates nodes said literals o pairs s point n f =
    OfForest (OfElement (scene_at nodes said literals o pairs n) s.elements) (record { point = point; template = n; place = 0 }) (template_at templates n) f

-- of the root, and of the templates in the list
abbrev pub OfPage : List Forest → List Node → List (List (ℕ × StrSet)) → List (List ℕ) → Tables → List (ℕ × ℕ) → Schema → ℕ → ℕ → List ℕ → Fault → Type 0
OfPage templates nodes said literals o pairs s root point list f =
    OfRoot point s.root root (template_at templates root) f ⊎ OfSome (OfTemplate templates nodes said literals o pairs s point) list f

-- by an outline, of the elements of template n, and of all that it reaches
abbrev pub OfOutline : List Forest → List (List ℕ) → Outline → Schema → ℕ → ℕ → Fault → Type 0
OfOutline templates literals o s point n f = OfTemplate templates o.graphed.nodes.items o.graphed.said.items literals o.tables o.pairs.items s point n f

abbrev pub OfAll : List Forest → List (List ℕ) → Outline → Schema → ℕ → ℕ → Fault → Type 0
OfAll templates literals o s root point f =
    OfPage templates o.graphed.nodes.items o.graphed.said.items literals o.tables o.pairs.items s root point o.tables.order.items f

-- what is known of template n is what the graph says
pub record IsScene (G : Graph) (n : ℕ) (s : Scene) : Type 0 where
  pub left : (g : ℕ) → among s.node.open_gaps g ≡ G.track g n
  pub told : (g : ℕ) → among s.node.said g ≡ true → (w : List ℕ) × (G.label n g w ≡ true)
  pub telling : (g : ℕ) (w : List ℕ) → G.label n g w ≡ true → among s.node.said g ≡ true
  pub strings : (g : ℕ) (w : List ℕ) → G.label n g w ≡ list_any (λ l. (l.0 == g) && has_string s.literals l.1 w) s.said

-- the template is one element
abbrev pub IsWrapper : Forest → Type 0
IsWrapper t = (tag : List ℕ) × (a : List Attr) × (i : Forest) × (t ≡ element tag a i none)

-- the tables are those of the page graph, made for the formulas of the schema
pub record IsPage (templates : List Forest) (nodes : List Node) (said : List (List (ℕ × StrSet))) (literals : List (List ℕ)) (o : Tables) (first : ℕ)
    (pairs : List (ℕ × ℕ)) (s : Schema) (root : ℕ) (G : Graph) : Type 0 where
  pub wrapper : IsWrapper (template_at templates root)
  pub reached : (n : ℕ) → Contains o.order.items n ↔ Reached G root n
  pub tables : AreTables templates nodes G root first pairs o.tags o.tops o.miss o.cross
  pub strings : AreStrings said literals G
  pub named : (r : Rule) → Contains s.elements r → AreNamed o.tags first pairs r.needs
