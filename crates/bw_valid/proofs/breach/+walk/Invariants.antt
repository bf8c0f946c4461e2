use Rattle.std.proofs.Common.{◌≡◌, ◌+◌, take, None}
use Rattle.bw_lang.specs.Document.View.{forest}
use Rattle.bw_lang.specs.Document.Documents.{elements}
use Rattle.bw_valid.specs.Breaches.{first_broken}
use Rattle.bw_valid.proofs.breach.+walk.Given as goal

abbrev pub decreases-first_broken : goal.decreases-first_broken
decreases-first_broken l = goal.size-first_broken l

abbrev pub decreases-item_broken : goal.decreases-item_broken
decreases-item_broken l = goal.size-item_broken l

abbrev pub invariant-first_broken-loop-item : goal.invariant-first_broken-loop-item
invariant-first_broken-loop-item l =
    (first_broken l.rules l.start (forest (take l.item-index l.item-items)) ≡ None)
    × (l.place ≡ l.start + elements (forest (take l.item-index l.item-items)))
