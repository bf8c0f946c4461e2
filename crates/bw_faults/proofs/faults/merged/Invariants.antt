use Rattle.std.proofs.Common.{◌≡◌, ◌+◌, ◌++◌}
use Rattle.std.specs.VecDeque.{deque_len}
use Rattle.bw_solve.specs.Sets.{merge}
use Rattle.bw_faults.specs.Order.{fault_cmp}
use Rattle.bw_faults.proofs.faults.merged.Given as goal

-- what was taken, and then what is left, merged
abbrev pub invariant-loop-fault : goal.invariant-loop-fault
invariant-loop-fault l = l.all.items ++ merge fault_cmp l.mine.items l.others.items ≡ merge fault_cmp l.fn.mine.items l.fn.others.items

abbrev pub decreases-loop-fault : goal.decreases-loop-fault
decreases-loop-fault l = deque_len l.mine + deque_len l.others
