use Rattle.std.proofs.Common.{◌≡◌, drop}
use Rattle.bw_near.specs.Near.{nearest, nearest_behind}
use Rattle.bw_diagnose.proofs.meant.nearest_of.Given as goal

abbrev pub invariant-loop-name : goal.invariant-loop-name
invariant-loop-name l = nearest_behind l.word l.nearest (drop l.name-index l.names) ≡ nearest l.word l.names
