use Rattle.std.proofs.Common.{ap, sym, ◌∙◌, subst, arith}
use Rattle.std.specs.List.{list_any}
use Rattle.std.proofs.lemmas.List.{take_all}
use Rattle.bw_explain.specs.Building.{HasMore, of_track}
use Rattle.bw_explain.proofs.Tying.{more_none, more_step}
use Rattle.bw_explain.proofs.building.add_tracks.Goals as goal

pub loop-track-init : goal.loop-track-init
loop-track-init c = record { made = c.requires.made; more = more_none (of_track) c.args.list.now.items }

pub loop-track-preserved : goal.loop-track-preserved
loop-track-preserved c = record {
  made = c.in_ok-add_at.ensures.made;
  more = more_step of_track c.args.list.now.items c.loop-track.list.items c.add_at.new.list.items c.args.tracks.now c.loop-track.track-index
      c.track-item.result c.track-item.is c.loop-track-test.true c.loop-track.invariant.more c.in_ok-add_at.ensures.more;
}

pub add_at-requires-clause-n : goal.add_at-requires-clause-n
add_at-requires-clause-n c =
    let l = c.requires.rows c.loop-track.track-index c.track-item.result c.loop-track-test.true in
    let e = ap (λ z. z.1) c.track-item.is in
    let m = c.loop-track.invariant.more.len in
    omega (arith, l, e, m)

pub add_at-requires-clause-nodes : goal.add_at-requires-clause-nodes
add_at-requires-clause-nodes c = c.requires.nodes ∙ sym c.loop-track.invariant.more.len

pub add_at-requires-clause-said : goal.add_at-requires-clause-said
add_at-requires-clause-said c = c.requires.said ∙ sym c.loop-track.invariant.more.len

pub add_at-requires-clause-made : goal.add_at-requires-clause-made
add_at-requires-clause-made c = c.loop-track.invariant.made

pub returns-clause-made : goal.returns-clause-made
returns-clause-made c = c.loop-track.invariant.made

pub returns-clause-more : goal.returns-clause-more
returns-clause-more c =
    subst (λ ts. HasMore c.args.list.now.items c.loop-track.list.items (λ m h. list_any (of_track m h) ts))
    (take_all c.loop-track.track-index c.args.tracks.now c.loop-track-test.false) c.loop-track.invariant.more
