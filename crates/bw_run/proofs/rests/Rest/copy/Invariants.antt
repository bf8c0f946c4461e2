use Rattle.std.proofs.Common.{◌≡◌, take}
use Rattle.bw_run.proofs.rests.Rest.copy.Given as goal

abbrev pub invariant-loop-string : goal.invariant-loop-string
invariant-loop-string l = l.strings ≡ take l.string-index l.string-items
