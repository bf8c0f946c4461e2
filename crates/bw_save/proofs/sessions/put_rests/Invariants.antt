use Rattle.std.proofs.Common.{◌≡◌, ◌++◌, take}
use Rattle.std.specs.List.{flat_map}
use Rattle.bw_saved.specs.Fields.Spelling.{strings}
use Rattle.bw_save.proofs.sessions.put_rests.Given as goal

abbrev pub invariant-loop-rest : goal.invariant-loop-rest
invariant-loop-rest l = l.out.items ≡ l.fn.out.items ++ flat_map strings (take l.rest-index l.rests)
