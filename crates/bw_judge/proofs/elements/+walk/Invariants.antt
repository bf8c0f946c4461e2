use Rattle.std.proofs.Common.{◌≡◌, ◌+◌, take}
use Rattle.bw_lang.specs.Document.View.{forest}
use Rattle.bw_lang.specs.Document.Documents.{elements}
use Rattle.bw_faults.specs.Lists.{Adds}
use Rattle.bw_judge.specs.Found as found
use Rattle.bw_judge.proofs.elements.+walk.Given as goal

abbrev pub decreases-judge_item : goal.decreases-judge_item
decreases-judge_item l = goal.size-judge_item l

abbrev pub decreases-judge_items : goal.decreases-judge_items
decreases-judge_items l = goal.size-judge_items l

abbrev pub invariant-judge_items-loop-item : goal.invariant-judge_items-loop-item
invariant-judge_items-loop-item l =
    (l.place ≡ l.spot.place + elements (forest (take l.item-index l.item-items)))
    × Adds (found.OfForest (found.OfElement l.scene l.rules) l.spot (forest (take l.item-index l.item-items))) l.initial.faults l.faults
