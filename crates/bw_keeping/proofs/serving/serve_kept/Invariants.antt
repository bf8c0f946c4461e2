use Rattle.std.proofs.Common.{◌≡◌, ◌≤◌, length}
use Rattle.std.specs.List.{AllByRecursion}
use Rattle.bw_world.specs.Streams.Taking.{AreFit}
use Rattle.bw_keeping.specs.Served.{view}
use Rattle.bw_keeping.specs.Steps.{desk}
use Rattle.bw_keeping.proofs.ServedSoFar.{HasTaken, sight}
use Rattle.bw_keeping.proofs.serving.serve_kept.Given as goal

abbrev pub invariant-links : goal.invariant-links
invariant-links g l = record {
  taken : HasTaken g.D.Link.Channel l.formats l.fn.world.service l.turn
      (view l.fn.world (g.K.Keys.coming l.fn.keys) (g.D.Door.coming l.fn.door) (g.D.Door.returned l.fn.door) (g.J.Journal.deeds l.fn.journal)
      l.fn.room.group.sum l.fn.steps)
      (sight l.world (g.K.Keys.coming l.keys) (g.D.Door.coming l.door) l.steps)
      (desk (g.D.Door.returned l.door) (g.J.Journal.deeds l.journal) l.room.group.bytes l.room.group.sum l.room.queue.links.items);
  fit : AllByRecursion (λ w. AreFit l.world.service w.taken) l.room.queue.links.items;
  out : length l.room.queue.links.items ≤ g.D.WideDoor.out l.door;
  sound : g.J.Journal.is_sound l.journal;
  journal : g.J.Journal.faults l.journal ≡ g.J.Journal.faults l.fn.journal;
  door : g.D.Door.faults l.door ≡ g.D.Door.faults l.fn.door;
  asked : g.D.Door.asked l.door ≡ g.D.Door.asked l.fn.door;
  service : l.world.service ≡ l.fn.world.service;
}
