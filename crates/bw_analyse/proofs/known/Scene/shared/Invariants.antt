use Rattle.std.proofs.Common.{◌≡◌, drop}
use Rattle.bw_analyse.specs.Known.{of_shared}
use Rattle.bw_analyse.proofs.known.Scene.shared.Given as goal

abbrev pub invariant-loop-place : goal.invariant-loop-place
invariant-loop-place l = of_shared (drop l.place l.variables) (drop l.place l.self.shared.now) l.name ≡ of_shared l.variables l.self.shared.now l.name
