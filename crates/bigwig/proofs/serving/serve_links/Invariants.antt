use Rattle.std.proofs.Common.{◌≡◌, None}
use Rattle.bigwig.specs.Works.{outside}
use Rattle.bigwig.proofs.Links.{HasServed}
use Rattle.bigwig.proofs.serving.serve_links.Given as goal

abbrev pub invariant-links : goal.invariant-links
invariant-links g l = record {
  served : HasServed l.fn.server.formats l.turn l.fn.server.world l.server.world
      (outside None (g.K.Keys.coming l.fn.keys) (g.D.Door.asked l.fn.door) (g.D.Door.coming l.fn.door) (g.D.Door.returned l.fn.door) None l.fn.steps None)
      (outside None (g.K.Keys.coming l.keys) (g.D.Door.asked l.door) (g.D.Door.coming l.door) (g.D.Door.returned l.door) None l.steps None);
  quiet : g.D.Door.faults l.door ≡ g.D.Door.faults l.fn.door;
  asked : g.D.Door.asked l.door ≡ g.D.Door.asked l.fn.door;
  service : l.server.world.service ≡ l.fn.server.world.service;
  formats : l.server.formats ≡ l.fn.server.formats;
}
