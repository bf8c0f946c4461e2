use Rattle.std.proofs.Common.{◌≡◌, false, ◌∷◌, map, ap, ◌∙◌, subst}
use Rattle.std.specs.List.{list_any}
use Rattle.bw_schema.specs.MarkView.{mark_of}
use Rattle.bw_schema.specs.Marks.{AreSame, Mark, mark, same_mark}
use Rattle.bw_schema.proofs.MarkSets.{put}
use Rattle.bw_schema.proofs.marks.MarkSet.add.Goals as goal

pub returns : goal.returns
returns c =
    let k = c.in_ok-of.field-0 in
    let ks = c.self.inside.marks.keys in
    let e : mark_of k ≡ mark_of c.args.mark.now = c.in_ok-of.ensures ∙ ap (mark c.args.mark.now.rule c.args.mark.now.kind) c.as_str.ensures.value in
    let fresh : list_any (same_mark (mark_of k)) (map mark_of ks) ≡ false =
    ap (λ (m : Mark). list_any (same_mark m) (map mark_of ks)) e ∙ ap (list_any (same_mark (mark_of c.args.mark.now))) c.self.view_is ∙ c.requires in
    subst (AreSame (map mark_of c.insert.new.self.keys)) (λ i. e i ∷ c.self.view_is i)
    (put k ks c.insert.new.self.keys c.in_ok-insert.field-0 c.in_ok-insert.ensures.added fresh c.in_ok-insert.ensures.keys)
