use Rattle.std.proofs.Common.{◌≡◌, ◌++◌}
use Rattle.bw_solve.specs.Sets.{merge}
use Rattle.bw_faults.specs.Order.{fault_cmp}
use Rattle.bw_faults.proofs.faults.Faults.append.Given as goal

abbrev pub invariant-loop-fault : goal.invariant-loop-fault
invariant-loop-fault l = record {
  joined : l.self ≡ merge fault_cmp l.initial.self l.yielded;
  parts : l.fn.other ≡ l.yielded ++ l.fault-iterator.rest.items;
}
