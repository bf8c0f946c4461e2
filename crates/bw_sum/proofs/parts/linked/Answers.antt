use Rattle.std.proofs.Common.{◌≡◌, ℕ, ◌+◌, ◌<◌, List, [], ◌∷◌, length, get_or, drop, sym, ap, ◌∙◌}
use Rattle.bw_solve.proofs.Walk.{left_at}
use Rattle.bw_solve.specs.Sets.{merge}
use Rattle.bw_sum.specs.Edges.{edge_cmp, edges_from}
use Rattle.bw_sum.proofs.parts.linked.Goals as goal

step : (start new old : List (ℕ × ℕ × ℕ)) (from gap : ℕ) (items roots : List ℕ) (i x : ℕ) → items ≡ roots → i < length items → x ≡ get_or items i x
    → new ≡ merge edge_cmp old ((from, gap, x) ∷ []) → edges_from old from gap (drop i roots) ≡ start → edges_from new from gap (drop (i + 1) roots) ≡ start
step start new old from gap items roots i x e h p a done =
    ap (λ s. edges_from s from gap (drop (i + 1) roots)) a
    ∙ sym (ap (edges_from old from gap) (left_at roots i x (let k : i < length roots = rw (← e) h in k) (p ∙ ap (λ l. get_or l i x) e))) ∙ done

pub loop-root-preserved : goal.loop-root-preserved
loop-root-preserved c =
    step _ c.add.new.self c.loop-root.all c.args.from c.args.gap c.as_slice-root-items.result.now c.args.roots.now c.loop-root.root-index c.root-item.result
    c.as_slice-root-items.ensures.value c.loop-root-test.true c.root-item.is c.in_ok-add.ensures.ok c.loop-root.invariant
