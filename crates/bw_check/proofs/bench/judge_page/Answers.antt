use Rattle.std.proofs.Common.{sym, subst}
use Rattle.bw_shape.specs.Outlines.{IsPageGraph}
use Rattle.bw_check.proofs.bench.judge_page.Goals as goal

pub judge_graph-faults-requires-clause-known : goal.judge_graph-faults-requires-clause-known
judge_graph-faults-requires-clause-known c =
    subst (IsPageGraph c.args.bench.basis.now.typed.now.service) (sym c.in_ok-page.ensures)
    (c.pages_are_graphs.ensures c.args.bench.facts.now c.args.place c.requires.facts c.requires.page)
