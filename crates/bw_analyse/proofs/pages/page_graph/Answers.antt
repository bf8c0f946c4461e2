use Rattle.bw_analyse.proofs.PageLaws.{has_summary}
use Rattle.bw_analyse.proofs.pages.page_graph.Goals as goal

pub unreachable-requires-in_default-shown : goal.unreachable-requires-in_default-shown
unreachable-requires-in_default-shown c =
    has_summary c.args.typed.now.service c.args.facts.now c.args.point c.requires.facts c.requires.point c.in_default-shown.ensures
