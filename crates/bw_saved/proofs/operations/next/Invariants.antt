use Rattle.std.proofs.Common.{◌≡◌}
use Rattle.bw_saved.specs.Documents.Left.{all_left, all_steps}
use Rattle.bw_saved.proofs.operations.next.Given as goal

abbrev pub invariant-loop-task : goal.invariant-loop-task
invariant-loop-task l = all_left l.tasks.items ≡ all_left l.fn.tasks.items

abbrev pub decreases-loop-task : goal.decreases-loop-task
decreases-loop-task l = all_steps l.tasks.items
