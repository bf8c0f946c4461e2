use Rattle.std.proofs.Common.{sym}
use Rattle.std.proofs.lemmas.Bool.{false≢true}
use Rattle.std.proofs.lemmas.Result.{IfOk-weaker}
use Rattle.bw_shape.specs.Nodes.Templates.{template_at}
use Rattle.bw_explain.specs.Explained.{Finds, spot_of}
use Rattle.bw_explain.specs.Ways.{graph}
use Rattle.bw_explain.proofs.Best.{best_at}
use Rattle.bw_explain.proofs.Numbers.{same_le}
use Rattle.bw_explain.proofs.finding.find_with.Goals as goal

pub solve-requires-clause-deep : goal.solve-requires-clause-deep
solve-requires-clause-deep c = λ o. same_le 1

pub solve-requires-clause-plain : goal.solve-requires-clause-plain
solve-requires-clause-plain c = λ o. absurd (false≢true (sym o))

pub solve-requires-clause-fair : goal.solve-requires-clause-fair
solve-requires-clause-fair c = record { cost = c.requires.broken.size; made = c.requires.broken.made }

pub returns : goal.returns
returns c = IfOk-weaker c.found_at-found.result _ _ (λ f h. best_at (Finds (template_at c.args.ground.now.page.now.templates.now)
    (graph c.args.ground.now.page.now.nodes.now)
    (spot_of c.args.spot.now) c.args.breach.now.rule.now c.args.breach.now.atom.now) c.in_ok-tables.tables.first c.args.root f.size f.doc
    (c.in_ok-tables.ensures.first (same_le 1)) h)
    c.found_at-found.ensures
