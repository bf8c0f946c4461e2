use Rattle.std.proofs.Common.{◌≡◌, ◌≤◌, length}
use Rattle.std.specs.List.{AllByRecursion}
use Rattle.bw_world.specs.Streams.Taking.{AreFit}
use Rattle.bw_keeping.proofs.Giving.{HasReplied}
use Rattle.bw_keeping.proofs.replying.reply_to_all.Given as goal

abbrev pub invariant-loop-waiting : goal.invariant-loop-waiting
invariant-loop-waiting g l = record {
  given : HasReplied g.D.Link.Channel l.world.service l.fn.queue.links.items l.queue.links.items (g.D.Door.returned l.fn.door) (g.D.Door.returned l.door);
  fit : AllByRecursion (λ w. AreFit l.world.service w.taken) l.queue.links.items;
  out : length l.queue.links.items ≤ g.D.WideDoor.out l.door;
  coming : g.D.Door.coming l.door ≡ g.D.Door.coming l.fn.door;
  asked : g.D.Door.asked l.door ≡ g.D.Door.asked l.fn.door;
  quiet : g.D.Door.faults l.door ≡ g.D.Door.faults l.fn.door;
}

abbrev pub decreases-loop-waiting : goal.decreases-loop-waiting
decreases-loop-waiting g l = length l.queue.links.items
