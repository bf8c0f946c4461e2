use Rattle.std.proofs.Common.{subst}
use Rattle.std.specs.List.{All}
use Rattle.bw_shape.specs.Nodes.Templates.{template_at}
use Rattle.bw_shape.specs.Columns.{AreKnown}
use Rattle.bw_shape.proofs.tables.order_of.Goals as goal

pub returns-clause-known : goal.returns-clause-known
returns-clause-known c =
    subst (All (λ n. AreKnown c.take_tops.new.tags (template_at c.args.templates.now n))) c.as_slice.ensures.value c.in_ok-take_tops.ensures.known
