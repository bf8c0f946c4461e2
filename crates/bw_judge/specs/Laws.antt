-- The faults 4 and 5 of an element are those of what its unfoldings may have in it.
use Rattle.std.specs.Prelude.{◌≡◌, ◌↔◌, ℕ, ◌+◌, Bool, false, List, length, codes}
use Rattle.bw_lang.specs.Document.Forest.{Forest}
use Rattle.bw_shape.specs.Rows.Rows.{at}
use Rattle.bw_shape.specs.Rows.Least.{IsDerived, IsClosedAt}
use Rattle.bw_faults.specs.declared.fault.Fault.{Fault}
use Rattle.bw_shape.specs.Nodes.Nodes.{Node, node_at}
use Rattle.bw_shape.specs.Nodes.Fits.{Fits}
use Rattle.bw_sum.specs.Graph.{Graph}
use Rattle.bw_shape.specs.Shape.{Reached, Gives, tagged, wordy}
use Rattle.bw_shape.specs.Columns.{AreKnown}
use Rattle.bw_shape.specs.Nodes.Templates.{template_at}
use Rattle.bw_shape.specs.Follows.{top_follows}
use Rattle.bw_shape.specs.Tests.{gives}
use Rattle.bw_judge.specs.declared.content.Spot.{Spot}
use Rattle.bw_judge.specs.Content.{fault_at, OfContent}
use Rattle.bw_schema.specs.Words.{is_among}

-- a child that isn't allowed, or a text where none is, of an element of template n with these items
pub data ContentFault (templates : ℕ → Forest) (G : Graph) (s : Spot) (has : List (List ℕ)) (text : Bool) (n : ℕ) (inner : Forest) : Fault → Type 0 where
  child : {x : List ℕ} → Gives templates G n inner (tagged x) → is_among has x ≡ false → ContentFault templates G s has text n inner (fault_at s 4 x)
  words : Gives templates G n inner wordy → text ≡ false → ContentFault templates G s has text n inner (fault_at s 5 (codes "text"))

-- the least tops of the reached templates, by a table that has their tags
pub record AreTops (templates : List Forest) (nodes : List Node) (G : Graph) (root : ℕ) (tags : List (List ℕ)) (tops : List (List Bool)) : Type 0 where
  pub fits : Fits nodes G
  pub derived : IsDerived (length tags + 1) (top_follows templates nodes tags) tops
  pub closed : (n : ℕ) → Reached G root n → IsClosedAt (length tags + 1) (top_follows templates nodes tags) tops n
  pub known : (n : ℕ) → Reached G root n → AreKnown tags (template_at templates n)

abbrev pub ContentExact : Type 0
ContentExact = (templates : List Forest) (nodes : List Node) (G : Graph) (root : ℕ) (tags : List (List ℕ)) (tops : List (List Bool))
    → AreTops templates nodes G root tags tops
    → (s : Spot) (has : List (List ℕ)) (text : Bool) (n : ℕ) (inner : Forest) → Reached G root n → AreKnown tags inner
    → (f : Fault) → OfContent s has text tags (λ c. gives tags (node_at nodes n) (λ m. at tops m c) c inner) (length tags) f
    ↔ ContentFault (template_at templates) G s has text n inner f
