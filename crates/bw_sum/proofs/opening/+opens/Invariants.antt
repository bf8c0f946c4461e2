use Rattle.std.proofs.Common.{◌≡◌, drop}
use Rattle.bw_lang.specs.Document.View.{forest}
use Rattle.bw_sum.specs.Opening.{opens}
use Rattle.bw_sum.proofs.opening.+opens.Given as goal

abbrev pub invariant-opens-loop-item : goal.invariant-opens-loop-item
invariant-opens-loop-item l = opens l.gap (forest (drop l.item-index l.item-items)) ≡ opens l.gap l.items
