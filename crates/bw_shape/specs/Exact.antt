-- What the tables of flags have: exactly the facts of the shape, of each template that is reached.
use Rattle.std.specs.Prelude.{◌≡◌, ◌↔◌, ℕ, ◌+◌, ◌<◌, ◌≤◌, Bool, true, List, length, slice_index_or}
use Rattle.std.specs.List.{Contains}
use Rattle.bw_lang.specs.Document.Forest.{Forest}
use Rattle.bw_lang.specs.Table.Names.{name_number}
use Rattle.bw_shape.specs.Rows.Rows.{at}
use Rattle.bw_shape.specs.Rows.Least.{IsDerived, IsClosedAt}
use Rattle.bw_shape.specs.Nodes.Nodes.{Node}
use Rattle.bw_shape.specs.Nodes.Fits.{Fits}
use Rattle.bw_sum.specs.Graph.{Graph}
use Rattle.bw_shape.specs.Shape.{Reached, Top, Gives, Has, Lacks, Doubles, Misses, Crossing}
use Rattle.bw_shape.specs.Nodes.Templates.{template_at}
use Rattle.bw_shape.specs.Follows.{top_follows, miss_follows, cross_follows}
use Rattle.bw_shape.specs.Tests.{tag_column}
use Rattle.bw_shape.specs.Columns.{top_column, AreKnown}
use Rattle.bw_shape.specs.declared.tables.Tables.{Tables}

-- the first tags are those of formulas; the pairs are columns of tags that stand in order
pub record HoldFacts (templates : List Forest) (G : Graph) (root : ℕ) (names : List (List ℕ)) (first : ℕ) (pairs : List (ℕ × ℕ)) (o : Tables) : Type 0 where
  pub reached : (n : ℕ) → Contains o.order.items n ↔ Reached G root n
  pub has_tops : (n : ℕ) (x : Top) → Reached G root n → (at o.tops n (top_column o.tags x) ≡ true)
      ↔ Gives (template_at templates) G n (template_at templates n) x
  pub may_have : (n f : ℕ) → Reached G root n → f < length names → (at o.have n f ≡ true) ↔ Has (template_at templates) G names f n
  pub may_lack : (n f : ℕ) → Reached G root n → f < length names → (at o.lack n f ≡ true) ↔ Lacks (template_at templates) G names f n (template_at templates n)
  pub has_twice : (n f : ℕ) → Reached G root n → f < length names → (at o.twice n f ≡ true) ↔ Doubles (template_at templates) G names f n
  pub may_miss : (n : ℕ) (x : List ℕ) → Reached G root n → name_number o.tags x < first → (at o.miss n (name_number o.tags x) ≡ true)
      ↔ Misses (template_at templates) G x n (template_at templates n)
  pub may_cross : (n k : ℕ) (x y : List ℕ) → Reached G root n → k < length pairs → slice_index_or pairs k (0, 0) ≡ (tag_column o.tags y, tag_column o.tags x)
      → name_number o.tags x < length o.tags → name_number o.tags y < length o.tags → (at o.cross n k ≡ true)
      ↔ Crossing (template_at templates) G x y n (template_at templates n)

-- the tables of what stands at the top: each fact is derived, and at each reached template there is no other
pub record AreTables (templates : List Forest) (nodes : List Node) (G : Graph) (root : ℕ) (first : ℕ) (pairs : List (ℕ × ℕ)) (tags : List (List ℕ))
    (tops miss cross : List (List Bool)) : Type 0 where
  pub fits : Fits nodes G
  pub few : first ≤ length tags
  pub known : (n : ℕ) → Reached G root n → AreKnown tags (template_at templates n)
  pub tops_derived : IsDerived (length tags + 1) (top_follows templates nodes tags) tops
  pub tops_closed : (n : ℕ) → Reached G root n → IsClosedAt (length tags + 1) (top_follows templates nodes tags) tops n
  pub miss_derived : IsDerived first (miss_follows templates nodes tags) miss
  pub miss_closed : (n : ℕ) → Reached G root n → IsClosedAt first (miss_follows templates nodes tags) miss n
  pub cross_derived : IsDerived (length pairs) (cross_follows templates nodes tags (at tops) pairs) cross
  pub cross_closed : (n : ℕ) → Reached G root n → IsClosedAt (length pairs) (cross_follows templates nodes tags (at tops) pairs) cross n
