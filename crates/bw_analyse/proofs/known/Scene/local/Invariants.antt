use Rattle.std.proofs.Common.{◌≡◌, drop}
use Rattle.bw_analyse.specs.Known.{of_local}
use Rattle.bw_analyse.proofs.known.Scene.local.Given as goal

abbrev pub invariant-loop-place : goal.invariant-loop-place
invariant-loop-place l = of_local (drop l.place l.self.scope.now) (drop l.place l.self.locals.now) l.name ≡ of_local l.self.scope.now l.self.locals.now l.name
