use Rattle.std.proofs.Common.{ℕ, List, length, refl, subst}
use Rattle.bw_shape.specs.Nodes.Fits.{Fits}
use Rattle.bw_shape.specs.Nodes.Nodes.{Node}
use Rattle.bw_sum.specs.Graph.{Graph}
use Rattle.bw_shape.specs.Exact.{HoldFacts, AreTables}
use Rattle.bw_shape.proofs.outline.outlined.Goals as goal

pub returns : goal.returns
returns c =
    let a = c.args in
    let t = c.in-Ok.tables in
    let k = length a.named.tags in
    record {
      nodes = refl;
      pairs = refl;
      first = c.len-first.ensures.len;
      front = c.in-Ok.ensures.front;
      small = c.in-Ok.ensures.small;
      facts =
          subst (λ (ns : List Node). (G : Graph) → Fits ns G → HoldFacts a.templates.now G a.root a.names.now k a.named.pairs.items t) c.as_slice.ensures.value
          (subst (λ (ps : List (ℕ × ℕ)). (G : Graph) → Fits c.as_slice.result.now G → HoldFacts a.templates.now G a.root a.names.now k ps t)
          c.as_slice-2.ensures.value c.in-Ok.ensures.shape);
      tables =
          subst (λ (ns : List Node). (G : Graph) → Fits ns G → AreTables a.templates.now ns G a.root k a.named.pairs.items t.tags t.tops t.miss t.cross)
          c.as_slice.ensures.value
          (subst (λ (ps : List (ℕ × ℕ)). (G : Graph) → Fits c.as_slice.result.now G
          → AreTables a.templates.now c.as_slice.result.now G a.root k ps t.tags t.tops t.miss t.cross) c.as_slice-2.ensures.value
          c.in-Ok.ensures.tables);
    }
