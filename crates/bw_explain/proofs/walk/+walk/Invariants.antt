use Rattle.std.proofs.Common.{◌≡◌, ◌+◌, take}
use Rattle.bw_lang.specs.Document.Documents.{elements}
use Rattle.bw_lang.specs.Document.View.{forest}
use Rattle.bw_explain.specs.Aims.{walk_of}
use Rattle.bw_explain.specs.Walks.{AreSizes, from, walk}
use Rattle.bw_explain.proofs.walk.+walk.Given as goal

abbrev pub invariant-reach_items-loop-item : goal.invariant-reach_items-loop-item
invariant-reach_items-loop-item l = record {
  is : l.reach ≡ walk (walk_of l.walk) l.n l.place (from l.state) (forest (take l.item-index l.item-items));
  place : l.at ≡ l.place + elements (forest (take l.item-index l.item-items));
  most : AreSizes l.reach;
}
