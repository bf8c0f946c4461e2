use Rattle.std.proofs.Common.{◌≡◌, ◌≤◌, ◌++◌, length, sym, subst, ap, ◌∙◌, arith}
use Rattle.std.proofs.lemmas.List.{at_drop_all, append-nil}
use Rattle.bw_strings.specs.Lawful.StringLaws.{below_none}
use Rattle.bw_sum.specs.Labels.{AreLabels, labels_at}
use Rattle.bw_sum.proofs.NewLabels.{labels_at_are}
use Rattle.bw_sum.proofs.labels.Labels.at_tracks.Goals as goal

pub invariant_of-result : goal.invariant_of-result
invariant_of-result c =
    let f = c.loop-track-test.false in
    let e = ap length c.as_slice-track-items.ensures.value in
    let all : labels_at c.args.tracks.now c.args.gap c.args.strings.now ≡ c.loop-track.list.items =
    sym c.loop-track.invariant ∙ at_drop_all (λ l. c.loop-track.list.items ++ labels_at l c.args.gap c.args.strings.now) c.args.tracks.now
    c.loop-track.track-index (let k : length c.args.tracks.now ≤ c.loop-track.track-index = omega arith in k)
    ∙ append-nil c.loop-track.list.items in
    subst AreLabels all (labels_at_are c.args.tracks.now c.args.gap c.args.strings.now c.as_slice-track-items.ensures.set
    (c.is_none-none.ensures.well_formed, below_none c.args.strings.now ∙ c.requires))
