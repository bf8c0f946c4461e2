use Rattle.std.proofs.Common.{ap}
use Rattle.bw_explain.specs.Aims.{aim_of, cost_of}
use Rattle.bw_explain.specs.Tables.{size_at}
use Rattle.bw_explain.specs.Walks.{Known}
use Rattle.bw_explain.proofs.Given.{with_is}
use Rattle.bw_explain.proofs.settle.beside.Goals as goal

pub returns-clause-walk : goal.returns-clause-walk
returns-clause-walk c =
    let w = c.args.walk.now in
    let e = c.with.ensures in
    ap (λ (k : Known). record { aim = aim_of w.aim; nodes = w.page.nodes.now; plain = size_at w.plain.now; known = k; cost = cost_of w.aim })
    (with_is w.known c.with.result c.args.known.now w.low w.high e.stay e.first e.second e.whole)
