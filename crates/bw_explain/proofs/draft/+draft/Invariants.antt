use Rattle.std.proofs.Common.{◌≡◌, ◌+◌, take}
use Rattle.bw_lang.specs.Document.Documents.{elements}
use Rattle.bw_lang.specs.Document.View.{forest}
use Rattle.bw_shape.specs.Nodes.Templates.{template_at}
use Rattle.bw_explain.specs.Aims.{aim_of, walk_of}
use Rattle.bw_explain.specs.Walks.{AreSizes, IsDraft, doc_of, from, walk}
use Rattle.bw_explain.specs.Ways.{graph}
use Rattle.bw_explain.proofs.draft.+draft.Given as goal

abbrev pub invariant-draft_items-loop-item : goal.invariant-draft_items-loop-item
invariant-draft_items-loop-item l = record {
  draft : IsDraft (template_at l.walk.page.templates.now) (graph l.walk.page.nodes.now) (aim_of l.walk.aim) l.n l.place l.state l.walk.high
      (forest (take l.item-index l.item-items)) l.reach (doc_of l.start l.middle l.last);
  is : l.reach ≡ walk (walk_of l.walk) l.n l.place (from l.state) (forest (take l.item-index l.item-items));
  place : l.at ≡ l.place + elements (forest (take l.item-index l.item-items));
  most : AreSizes l.reach;
}
