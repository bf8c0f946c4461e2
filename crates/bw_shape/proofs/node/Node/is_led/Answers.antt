use Rattle.std.proofs.Common.{rules, tests, ◌∙◌}
use Rattle.std.proofs.lemmas.Iterator.{YieldsList-from_slice}
use Rattle.std.proofs.lemmas.Iterator.Search.{any_from_yields_List}
use Rattle.bw_shape.specs.Rows.Rows.{at}
use Rattle.bw_shape.proofs.node.Node.is_led.Goals as goal

pub returns : goal.returns
returns c =
    any_from_yields_List (λ l. at c.args.known.now l.1 c.args.column) _ _ _ c.any.ensures.ran (YieldsList-from_slice c.links_at.result.now cc)
    (λ x b q k. search (rules, tests))
    ∙ c.links_at.ensures (λ m. at c.args.known.now m c.args.column)
