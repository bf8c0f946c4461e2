use Rattle.std.proofs.Common.{take}
use Rattle.bw_shape.specs.Nodes.Templates.{template_at}
use Rattle.bw_explain.specs.Explained.{FindsOne, IsBest, spot_of}
use Rattle.bw_explain.specs.Ways.{graph}
use Rattle.bw_explain.proofs.finding.find_all.Given as goal

abbrev pub invariant-loop-atom : goal.invariant-loop-atom
invariant-loop-atom l = IsBest (FindsOne (template_at l.ground.page.now.templates.now) (graph l.ground.page.now.nodes.now) (spot_of l.spot) l.rule
    (take l.atom-index l.atoms) l.root)
    l.best.size l.best.doc
