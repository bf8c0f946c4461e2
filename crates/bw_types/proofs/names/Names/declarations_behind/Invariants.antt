use Rattle.std.proofs.Common.{◌≡◌, drop, map}
use Rattle.bw_lang.specs.Service.Order.{seen}
use Rattle.bw_types.specs.Faults.{faults_behind}
use Rattle.bw_types.proofs.names.Names.declarations_behind.Given as goal

-- the faults are those from here on
abbrev pub invariant-loop-declaration : goal.invariant-loop-declaration
invariant-loop-declaration l = faults_behind l.self.service.now l.initial.earlier (map seen l.declarations) ≡ faults_behind l.self.service.now l.earlier
    (map seen (drop l.declaration-index l.declarations))
