use Rattle.std.proofs.Common.{◌≡◌, ◌≤◌}
use Rattle.bw_world.specs.Streams.Answers.{place}
use Rattle.bw_keeping.specs.Groups.{IsReady}
use Rattle.bw_keeping.specs.StreamSteps.{AreSame}
use Rattle.bw_keeping.specs.Streamed.{sight}
use Rattle.bw_keeping.proofs.StreamSoFar.{SoFar}
use Rattle.bw_keeping.proofs.streaming.answer_kept.Given as goal

abbrev pub invariant-messages : goal.invariant-messages
invariant-messages g l = record {
  few : l.count ≤ l.turn;
  stands : SoFar l.fn.handler.formats.now l.fn.handler.world.now.service (g.D.Door.returned l.door) l.turn l.count
      (sight (place g.C.Channel l.fn.handler.world.now l.fn.room.intake l.fn.link (g.K.Keys.coming l.fn.handler.keys.now) l.fn.handler.steps.now)
      (g.J.Journal.deeds l.fn.journal) l.fn.room.group.sum)
      (sight (place g.C.Channel l.handler.world.now l.room.intake l.link (g.K.Keys.coming l.handler.keys.now) l.handler.steps.now)
      (g.J.Journal.deeds l.journal) l.room.group.sum);
  sound : g.J.Journal.is_sound l.journal;
  ready : IsReady l.room.group;
  read_faults : g.C.Channel.read_faults l.link ≡ g.C.Channel.read_faults l.fn.link;
  write_faults : g.C.Channel.write_faults l.link ≡ g.C.Channel.write_faults l.fn.link;
  journal_faults : g.J.Journal.faults l.journal ≡ g.J.Journal.faults l.fn.journal;
  same_link : g.C.Channel.same l.fn.link l.link;
  same : AreSame l.fn.handler l.handler;
  service : l.handler.world.now.service ≡ l.fn.handler.world.now.service;
}
