use Rattle.std.proofs.Common.{◌≡◌, ◌<◌, length, ℕ, List, Option}
use denote.Shadow.{shadow}
use denote.Text.{Utf8}
use Rattle.bw_visit.specs.Ends.{Visited}
use Rattle.bw_visit.specs.Exchanges.{AreSame, Standing, standing}
use Rattle.bw_visit.specs.Scripts.{AreLines}
use Rattle.bw_visit.specs.declared.visiting.VisitEnd.{VisitEnd}
use Rattle.bw_visit.proofs.visiting.visit_from.Given as goal

abbrev pub invariant-loop-later : goal.invariant-loop-later
invariant-loop-later g l = record {
  text : shadow (Utf8 l.rest);
  some : 0 < length l.room.message.items;
  lines : AreLines l.rest;
  goes : (new : Standing) (now : Option (List ℕ)) (end : VisitEnd)
      → Visited l.room.message.items l.rest (standing g.K.Keys l.host) new (g.W.Channel.held l.out) now end
      → Visited l.initial.room.message.items l.lines (standing g.K.Keys l.initial.host) new (g.W.Channel.held l.initial.out) now end;
  write_faults : g.W.Channel.write_faults l.out ≡ g.W.Channel.write_faults l.initial.out;
  service : l.host.world.now.service ≡ l.initial.host.world.now.service;
  same : AreSame l.initial.host l.host;
}

abbrev pub decreases-loop-later : goal.decreases-loop-later
decreases-loop-later g l = length l.rest
