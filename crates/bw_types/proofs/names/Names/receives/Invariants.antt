use Rattle.std.proofs.Common.{◌≡◌, drop, flat_map}
use Rattle.bw_types.specs.Faults.{receive_fault}
use Rattle.bw_types.proofs.names.Names.receives.Given as goal

-- the faults are those from here on
abbrev pub invariant-loop-receive : goal.invariant-loop-receive
invariant-loop-receive l = flat_map (receive_fault l.self.service.now l.locals) l.receives ≡ flat_map (receive_fault l.self.service.now l.locals)
    (drop l.receive-index l.receives)
