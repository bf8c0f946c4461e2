use Rattle.std.proofs.Common.{◌≡◌, ◌≤◌}
use Rattle.bw_world.specs.Streams.Answers.{place}
use Rattle.bw_world.specs.Streams.Steps.Turns.{Stands}
use Rattle.bw_world.proofs.stream.answer.Given as goal

abbrev pub invariant-messages : goal.invariant-messages
invariant-messages g l = record {
  few : l.count ≤ l.turn;
  stands : Stands l.formats l.fn.world.service l.turn l.count (place g.C.Channel l.fn.world l.fn.intake l.fn.link (g.K.Keys.coming l.fn.keys) l.fn.steps)
      (place g.C.Channel l.world l.intake l.link (g.K.Keys.coming l.keys) l.steps);
  read_faults : g.C.Channel.read_faults l.link ≡ g.C.Channel.read_faults l.fn.link;
  write_faults : g.C.Channel.write_faults l.link ≡ g.C.Channel.write_faults l.fn.link;
  same : g.C.Channel.same l.fn.link l.link;
  service : l.world.service ≡ l.fn.world.service;
}
