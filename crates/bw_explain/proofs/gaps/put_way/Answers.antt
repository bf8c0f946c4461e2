use Rattle.std.proofs.Common.{◌≤◌, ap, sym, ◌∙◌, subst, arith}
use Rattle.bw_lang.specs.Document.Documents.{append}
use Rattle.bw_explain.specs.Aims.{walk_of}
use Rattle.bw_explain.specs.Tables.{size_at, doc_at}
use Rattle.bw_explain.specs.Walks.{gap_cost, plug, loose}
use Rattle.bw_shape.specs.Nodes.Nodes.{among}
use Rattle.bw_explain.proofs.Making.{none_picks}
use Rattle.bw_explain.proofs.gaps.put_way.Goals as goal

pub loose_item-requires : goal.loose_item-requires
loose_item-requires c =
    (none_picks c.args.walk.now c.args.way.now c.args.from c.args.to c.table-table.result.now c.gap_size-least.result c.gap_size-least.ensures.is
    (let e = c.gap_size-least.ensures.is in let s = c.requires.small in omega (arith, e, s)) c.table-table.ensures
    (λ m h. c.in-None.ensures m (ap (λ l. among l m) c.led.ensures ∙ h))).0

pub returns-in_ok-copy_onto-in-Some : goal.returns-in_ok-copy_onto-in-Some
returns-in_ok-copy_onto-in-Some c =
    plug c.in-Some.m (ap (λ l. among l c.in-Some.m) (sym c.led.ensures) ∙ c.in-Some.ensures.0)
    (subst (λ t. size_at t c.in-Some.m ≤ gap_cost (walk_of c.args.walk.now) c.args.way.now c.args.from c.args.to) c.table-table.ensures
    (subst (λ v. size_at c.table-table.result.now c.in-Some.m ≤ v) c.gap_size-least.ensures.is c.in-Some.ensures.1))
    (c.in_ok-copy_onto-in-Some.ensures ∙ ap (λ t. append c.args.out.now (doc_at t c.in-Some.m)) c.table-table.ensures)

pub returns-in_ok-push-in-None : goal.returns-in_ok-push-in-None
returns-in_ok-push-in-None c =
    let k = none_picks c.args.walk.now c.args.way.now c.args.from c.args.to c.table-table.result.now c.gap_size-least.result c.gap_size-least.ensures.is
    (let e = c.gap_size-least.ensures.is in let s = c.requires.small in omega (arith, e, s)) c.table-table.ensures
    (λ m h. c.in-None.ensures m (ap (λ l. among l m) c.led.ensures ∙ h)) in
    loose c.in_ok-item-in-None.ensures (let e = c.gap_size-least.ensures.is in let o = k.1 in omega (arith, e, o)) c.in_ok-push-in-None.ensures.ok
