use Rattle.std.proofs.Common.{◌≡◌, ◌+◌, ◌≤◌, take}
use Rattle.bw_lang.specs.Document.Documents.{elements}
use Rattle.bw_lang.specs.Document.View.{forest}
use Rattle.bw_explain.proofs.places.+at.Given as goal

abbrev pub invariant-element_at-loop-item : goal.invariant-element_at-loop-item
invariant-element_at-loop-item l = record {
  left : l.left + elements (forest (take l.item-index l.item-items)) ≡ l.place;
  least : 1 ≤ l.left;
}
