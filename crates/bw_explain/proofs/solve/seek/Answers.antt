use Rattle.std.proofs.lemmas.Result.{IfOk-weaker}
use Rattle.bw_explain.proofs.solve.seek.Goals as goal

pub settle-requires-clause-given : goal.settle-requires-clause-given
settle-requires-clause-given c =
    let g = c.requires.given c.if-high-search.false in
    record { states = g.states; zero = g.zero; plain = g.plain; known = g.known; fair = g.fair }

pub returns : goal.returns
returns c = IfOk-weaker c.settle.result _ _ (λ t h l. h) c.settle.ensures
