use Rattle.std.proofs.Common.{arith, ap, ◌∙◌, sym}
use Rattle.bw_lang.specs.Document.Documents.{elements}
use Rattle.bw_lang.specs.Document.Forest.{forest_size}
use Rattle.bw_valid.specs.Breaches.{first_broken}
use Rattle.bw_lang.proofs.Counts.{elements_upto}
use Rattle.bw_lang.proofs.Forests.{item_le-size}
use Rattle.bw_valid.proofs.Walks.{broken_there}
use Rattle.bw_valid.proofs.breach.+walk.Goals as goal

pub first_broken-item_broken-requires : goal.first_broken-item_broken-requires
first_broken-item_broken-requires t c =
    let xs = c.as_slice-item-items.result.now in
    let is = c.as_slice-item-items.ensures in
    let k = elements_upto xs c.loop-item.item-index c.item-item.result c.item-item.is c.loop-item-test.true in
    let s = item_le-size xs c.loop-item.item-index c.item-item.result c.item-item.is c.loop-item-test.true in
    (omega (arith, s, ap forest_size is), omega (arith, k, c.loop-item.invariant.1, c.requires, ap elements is))

pub first_broken-returns-in-Err-clause-err : goal.first_broken-returns-in-Err-clause-err
first_broken-returns-in-Err-clause-err t c =
    let xs = c.as_slice-item-items.result.now in
    let it = rw c.loop-item.invariant.1 at c.in-Err.ensures.err in
    ap (first_broken c.args.rules.now c.args.start) (sym c.as_slice-item-items.ensures)
    ∙ broken_there c.args.rules.now c.args.start xs c.loop-item.item-index c.item-item.result c.in-Err.breach c.item-item.is c.loop-item-test.true
    c.loop-item.invariant.0 it
