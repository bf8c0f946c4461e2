use Rattle.std.proofs.Common.{length, sym, ap, subst}
use Rattle.bw_analyse.specs.Pages.{page_graph}
use Rattle.bw_faults.specs.Lists.{Lists}
use Rattle.bw_fields.specs.Received.{IsFieldFault}
use Rattle.bw_flow.specs.View.{act, seen}
use Rattle.bw_shape.proofs.Outcomes.{if_ok}
use Rattle.bw_sum.specs.Templates.{template_items}
use Rattle.bw_check.specs.Faults.{page_at, received_at}
use Rattle.bw_check.proofs.Pages.{show_root}
use Rattle.bw_check.proofs.bench.judge_received.Goals as goal

pub judge_fields-requires : goal.judge_fields-requires
judge_fields-requires c = c.received_have_numbers.ensures c.args.place (seen c.args.point.now) _ _ c.requires.point (ap act c.in-Show.is)

pub returns-in-Show : goal.returns-in-Show
returns-in-Show c =
    let s = c.args.bench.basis.now.typed.now.service in
    let facts = c.args.bench.facts.now in
    let p = c.args.place in
    let root = show_root s facts p (seen c.args.point.now) _ _ c.requires.point (ap act c.in-Show.is) c.requires.page in
    if_ok c.judge_fields.result (λ l h.
    subst (λ rs. Lists (IsFieldFault (template_items s) (page_at s facts p) (length s.templates) s c.args.point.now.number rs) l)
    (sym (ap (λ w. received_at (act w)) c.in-Show.is))
    (h (page_graph s facts p) c.args.bench.basis.now.schema.now (c.requires.page, root, c.requires.shape)))
    c.judge_fields.ensures.exact
