use Rattle.bw_shape.proofs.Nodes.Growing.{track_more}
use Rattle.bw_shape.proofs.building.add_tracks.Goals as goal

pub loop-track-preserved : goal.loop-track-preserved
loop-track-preserved c =
    track_more c.args.tracks.now c.loop-track.track-index c.track-item.result c.track-item.result c.args.nodes.now.items c.loop-track.nodes.items
    c.add_track.new.nodes.items c.track-item.is c.loop-track-test.true c.loop-track.invariant c.in_ok-add_track.ensures
