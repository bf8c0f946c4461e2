use Rattle.std.proofs.Common.{◌≡◌, ap, sym, subst, ◌∙◌}
use Rattle.std.proofs.Math.ListN.{set}
use Rattle.bw_doc.specs.Spots.{at, both, added_at, IsTableOf}
use Rattle.bw_doc.proofs.TableLaws.{at_is, table_added}
use Rattle.bw_doc.proofs.spots.Openings.add.Goals as goal

pub returns : goal.returns
returns c =
    let reached = c.reach.new.list.items in let gap = c.number-gap.result in
    let same = subst (λ t. IsTableOf (at t) reached) c.self.view_is c.in_ok-reach.ensures.same in
    let there : at reached gap ≡ c.index.result.now = at_is reached gap c.index.result.now c.index.ensures c.in_ok-reach.ensures.room in
    let new : set reached gap c.join.result ≡ set reached gap (both (at reached gap) c.args.more) =
    ap (set reached gap) (c.join.ensures ∙ ap (λ o. both o c.args.more) (sym there)) in
    subst (λ g. IsTableOf (added_at g c.args.more c.args.self.now) (set reached gap c.join.result)) c.number-gap.ensures
    (table_added c.args.self.now reached (set reached gap c.join.result) gap c.args.more same c.in_ok-reach.ensures.room new)
