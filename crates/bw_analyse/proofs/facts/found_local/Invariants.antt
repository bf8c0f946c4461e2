use Rattle.std.proofs.Common.{◌≡◌, drop}
use Rattle.bw_analyse.specs.Known.{of_local}
use Rattle.bw_analyse.proofs.facts.found_local.Given as goal

abbrev pub invariant-loop-place : goal.invariant-loop-place
invariant-loop-place l = of_local (drop l.place l.local-items) (drop l.place l.row) l.name ≡ of_local l.local-items l.row l.name
