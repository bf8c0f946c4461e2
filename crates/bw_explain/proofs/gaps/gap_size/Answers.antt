use Rattle.std.proofs.Common.{◌≡◌, ap, sym, ◌∙◌}
use Rattle.bw_explain.specs.Aims.{known_of, table_of}
use Rattle.bw_explain.specs.Sizes.{least_of}
use Rattle.bw_explain.specs.Tables.{size_at}
use Rattle.bw_explain.specs.Walks.{known_at}
use Rattle.bw_explain.proofs.Given.{known_is}
use Rattle.bw_explain.proofs.gaps.gap_size.Goals as goal

pub returns-clause-is : goal.returns-clause-is
returns-clause-is c =
    let k = c.args.walk.now.known in
    let l : c.least_of.result ≡ least_of (known_at (known_of k) c.args.from c.args.to) c.args.way.now.led = c.least_of.ensures.least
    ∙ ap (λ t. least_of (size_at t) c.led.result.now) c.table.ensures ∙ ap (least_of (size_at (table_of k c.args.from c.args.to))) c.led.ensures
    ∙ ap (λ f. least_of f c.args.way.now.led) (sym (known_is k c.args.from c.args.to)) in
    let m = c.loose_size-loose.ensures.is in
    cc (l, m)
