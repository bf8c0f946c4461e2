use Rattle.std.proofs.Common.{◌≡◌, drop}
use Rattle.bw_analyse.specs.Known.{of_name}
use Rattle.bw_analyse.proofs.facts.Facts.shared.Given as goal

abbrev pub invariant-loop-place : goal.invariant-loop-place
invariant-loop-place l = of_name (drop l.place l.self.variables.items) (drop l.place l.row) l.name ≡ of_name l.self.variables.items l.row l.name
