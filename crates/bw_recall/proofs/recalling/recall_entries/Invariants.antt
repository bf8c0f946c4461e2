use Rattle.std.proofs.Common.{◌≡◌, ◌≤◌, ◌+◌, ◌*◌}
use Rattle.bw_journal.specs.declared.limits.TheConstants.{MAX_ENTRY_BYTES}
use Rattle.bw_out.specs.Sends.{Took}
use Rattle.bw_recall.proofs.SoFar.{SoFar}
use Rattle.bw_recall.proofs.recalling.recall_entries.Given as goal

abbrev pub invariant-entries : goal.invariant-entries
invariant-entries g l = record {
  so : SoFar l.formats l.fn.world l.world l.fn.start.len l.fn.start.sum l.fn.window (g.S.Channel.left l.fn.source) l.window
      (g.S.Channel.left l.source) l.len l.sum;
  few : l.len ≤ l.fn.start.len + l.turn * MAX_ENTRY_BYTES;
  size : l.window.size ≡ l.fn.window.size;
  service : l.world.service ≡ l.fn.world.service;
  steps : l.fn.steps ≤ l.steps;
  took : Took g.S.Channel l.fn.source l.source;
}
