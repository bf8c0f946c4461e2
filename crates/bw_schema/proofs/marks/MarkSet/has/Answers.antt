use Rattle.std.proofs.Common.{ap, ◌∙◌}
use Rattle.std.specs.List.{list_any}
use Rattle.bw_schema.specs.MarkView.{mark_of}
use Rattle.bw_schema.specs.Marks.{same_mark}
use Rattle.bw_schema.proofs.MarkSets.{any_marks}
use Rattle.bw_schema.proofs.marks.MarkSet.has.Goals as goal

pub returns : goal.returns
returns c =
    c.contains.ensures ∙ any_marks (mark_of c.args.mark.now) c.self.inside.marks.keys ∙ ap (list_any (same_mark (mark_of c.args.mark.now))) c.self.view_is
