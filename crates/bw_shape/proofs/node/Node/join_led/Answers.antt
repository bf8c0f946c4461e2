use Rattle.std.proofs.Common.{◌≡◌, take, arith, ap, sym, ◌∙◌}
use Rattle.std.proofs.lemmas.List.{take_all}
use Rattle.std.specs.List.{list_any}
use Rattle.bw_shape.specs.Rows.Rows.{at}
use Rattle.bw_shape.proofs.Rows.Changes.{sets_as}
use Rattle.bw_shape.proofs.node.Node.join_led.Goals as goal

pub returns : goal.returns
returns c =
    let links = c.links_at-link-items.result.now in
    let all : take c.loop-link.link-index links ≡ links = take_all c.loop-link.link-index links (omega arith) in
    sets_as c.loop-link.invariant
    (λ k. sym (ap (list_any (λ l. at c.args.known.now l.1 k)) all ∙ c.links_at-link-items.ensures (λ m. at c.args.known.now m k)))
