use Rattle.std.proofs.Common.{◌≡◌, drop}
use Rattle.bw_lang.specs.Document.View.{forest}
use Rattle.bw_schema.specs.Validity.{ordered}
use Rattle.bw_valid.specs.Breaches.{ordered_behind}
use Rattle.bw_valid.proofs.children.is_ordered.Given as goal

abbrev pub invariant-loop-item : goal.invariant-loop-item
invariant-loop-item l = ordered l.first l.last l.items ≡ ordered_behind l.passed l.first l.last (forest (drop l.item-index l.item-items))
