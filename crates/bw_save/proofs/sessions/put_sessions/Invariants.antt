use Rattle.std.proofs.Common.{◌≡◌, ◌++◌, take}
use Rattle.std.specs.List.{flat_map}
use Rattle.bw_saved.specs.Sessions.Layout.{session}
use Rattle.bw_save.proofs.sessions.put_sessions.Given as goal

abbrev pub invariant-loop-record : goal.invariant-loop-record
invariant-loop-record l = l.out.items ≡ l.fn.out.items ++ flat_map (session l.flow.steps) (take l.record-index l.records)
