use Rattle.std.proofs.Common.{◌≡◌, map, drop}
use Rattle.bw_format.specs.Steps.{op, run}
use Rattle.bw_format.proofs.walking.Walk.read.Given as goal

abbrev pub invariant-loop-step : goal.invariant-loop-step
invariant-loop-step l = run l.c (map op (drop l.step-index l.steps)) l.self ≡ run l.c (map op l.steps) l.initial.self
