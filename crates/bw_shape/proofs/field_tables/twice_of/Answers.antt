use Rattle.std.proofs.Common.{ℕ, Bool, List, length, subst}
use Rattle.std.specs.Result.{IfOk}
use Rattle.std.proofs.lemmas.Result.{IfOk-weaker}
use Rattle.bw_shape.specs.Rows.Rows.{at}
use Rattle.bw_shape.specs.Rows.Least.{IsLeast}
use Rattle.bw_shape.specs.Follows.{doubled_in, twice_follows, spread_follows}
use Rattle.bw_shape.proofs.Spreading.{spread_least}
use Rattle.bw_shape.proofs.field_tables.twice_of.Goals as goal

pub returns : goal.returns
returns c =
    let nodes = c.args.nodes.now in
    let names = c.args.names.now in
    let templates = c.args.templates.now in
    let have = at c.args.have.now in
    let back = c.args.back.now in
    let follows = spread_follows nodes (at c.in_ok-own.own) in
    IfOk-weaker c.least-table.result (λ (t : List (List Bool)). IsLeast (length names) follows back t)
    (λ (t : List (List Bool)). IsLeast (length names) (twice_follows templates nodes names have) back t)
    (λ t h. spread_least nodes (doubled_in templates nodes names have) c.in_ok-own.ensures.least h)
    (subst (λ (w : ℕ). IfOk c.least-table.result (λ (t : List (List Bool)). IsLeast w follows back t)) c.len.ensures c.least-table.ensures.least)
