use Rattle.std.proofs.Common.{sym, ap, ◌∙◌}
use Rattle.std.proofs.lemmas.List.{nil_from_length}
use Rattle.bw_solve.specs.Sets.{merge}
use Rattle.bw_sum.specs.Edges.{edge_cmp}
use Rattle.bw_analyse.proofs.PlugLaws.{nothing_more}
use Rattle.bw_analyse.proofs.plugging.joined.Goals as goal

pub returns-then-len-eq0 : goal.returns-then-len-eq0
returns-then-len-eq0 c =
    sym (ap (merge edge_cmp c.args.edges) (nil_from_length c.args.more (sym c.len.ensures ∙ c.if-len-eq0.true)) ∙ nothing_more c.args.edges)
