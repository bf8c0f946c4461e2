use Rattle.std.proofs.Common.{◌<◌, length, get_or, replicate, ◌==◌, ap, sym, ◌∙◌, arith}
use Rattle.std.specs.List.{sum_by}
use Rattle.std.proofs.lemmas.List.{length-set, length-replicate}
use Rattle.bw_lang.specs.Document.Forest.{none}
use Rattle.bw_explain.specs.declared.sizes.TheConstants.{PAST, NONE}
use Rattle.bw_explain.specs.Aims.{walk_of, Has}
use Rattle.bw_explain.specs.Sizes.{if_so}
use Rattle.bw_explain.specs.Tables.{Table}
use Rattle.bw_explain.specs.Walks.{seek_value}
use Rattle.bw_explain.proofs.Given.{walk_settles}
use Rattle.bw_explain.proofs.Settling.{start, put, all, sizes_fall}
use Rattle.bw_explain.proofs.settle.settle.Goals as goal

pub loop-next-init : goal.loop-next-init
loop-next-init c =
    let w = c.args.walk.now in
    let n = length w.page.templates.now in
    let e = c.in_ok-known.ensures
    ∙ ap (λ p. record { past = p; sizes = replicate c.len.result NONE; docs = replicate c.len.result none }) c.if_so-past.ensures.is
    ∙ ap (λ m. record { past = if_so (w.low == w.high) 0; sizes = replicate m NONE; docs = replicate m none }) c.len.ensures in
    record {
      settled = start (Has w.page w.aim w.low w.high) (seek_value w.page.templates.now (walk_of w) w.low w.high) n (if_so (w.low == w.high) 0)
          (walk_settles w c.requires.given) c.in_ok-known.known e;
      long = ap (λ t. length t.sizes) e ∙ length-replicate n NONE;
      docs = ap (λ t. length t.docs) e ∙ length-replicate n none ∙ sym (ap (λ t. length t.sizes) e ∙ length-replicate n NONE);
      past = ap (λ t. t.past) e;
      next = c.next_of-next.ensures;
    }

pub loop-next-preserved : goal.loop-next-preserved
loop-next-preserved c =
    let w = c.args.walk.now in
    let v = c.loop-next.invariant in
    record {
      settled = put (Has w.page w.aim w.low w.high) (seek_value w.page.templates.now (walk_of w) w.low w.high) (length w.page.templates.now)
          (if_so (w.low == w.high) 0) (walk_settles w c.requires.given) c.loop-next.known c.put.new.self c.loop-next.next.at c.loop-next.next.size
          c.in-Ok.doc v.long v.docs v.past v.settled v.next c.loop-next-test.true c.in-Ok.ensures c.put.ensures;
      long = ap (λ t. length t.sizes) c.put.ensures ∙ length-set c.loop-next.known.sizes c.loop-next.next.at c.loop-next.next.size ∙ v.long;
      docs = ap (λ t. length t.docs) c.put.ensures ∙ length-set c.loop-next.known.docs c.loop-next.next.at c.in-Ok.doc ∙ v.docs
          ∙ sym (ap (λ t. length t.sizes) c.put.ensures ∙ length-set c.loop-next.known.sizes c.loop-next.next.at c.loop-next.next.size);
      past = ap (λ t. t.past) c.put.ensures ∙ v.past;
      next = c.next_of-next-in-loop-next.ensures;
    }

pub returns : goal.returns
returns c =
    let w = c.args.walk.now in
    let v = c.loop-next.invariant in
    all (Has w.page w.aim w.low w.high) (seek_value w.page.templates.now (walk_of w) w.low w.high) (length w.page.templates.now) (if_so (w.low == w.high) 0)
    (walk_settles w c.requires.given) c.loop-next.known c.loop-next.next.at c.loop-next.next.size v.long v.past v.settled v.next c.loop-next-test.false

pub loop-next-smaller : goal.loop-next-smaller
loop-next-smaller c =
    let t = c.loop-next.known in
    let n = c.loop-next.next in
    let l = c.loop-next-test.true in
    let here = c.loop-next.invariant.next.here (omega (arith, l)) in
    let fits = c.loop-next.invariant.long in
    let at = here.0 in
    let above : PAST < get_or t.sizes n.at t.past = here.1 in
    let e = ap (λ (x : Table). sum_by (λ s. s) x.sizes) c.put.ensures in
    let k = sizes_fall t.sizes n.at n.size t.past (omega (arith, at, fits)) (omega (arith, above, l)) in
    omega (arith, e, k)
