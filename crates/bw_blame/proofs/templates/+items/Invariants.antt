use Rattle.std.proofs.Common.{◌≡◌, ◌+◌, drop, length}
use Rattle.bw_lang.specs.Document.View.{forest}
use Rattle.bw_places.specs.Tags.{tags}
use Rattle.bw_blame.specs.Blames.{blames_items, holes}
use Rattle.bw_blame.proofs.templates.+items.Given as goal

abbrev pub invariant-items-loop-item : goal.invariant-items-loop-item
invariant-items-loop-item l = record {
  ends : l.at.tags + length (tags (forest (drop l.item-index l.item-items))) ≡ l.fn.passed.tags + length (tags (forest l.item-items));
  gaps : l.at.holes + holes (forest (drop l.item-index l.item-items)) ≡ l.fn.passed.holes + holes (forest l.item-items);
  rest : blames_items l.names.service.now l.template l.d l.fn.passed.tags l.fn.passed.holes (forest l.item-items)
      ≡ blames_items l.names.service.now l.template l.d l.at.tags l.at.holes (forest (drop l.item-index l.item-items));
}
