use Rattle.std.proofs.Common.{◌≡◌, map}
use Rattle.std.specs.Prelude.{sum_by}
use Rattle.std.specs.List.{list_all}
use Rattle.bw_doc.specs.Made.{parts}
use Rattle.bw_save.specs.declared.filled.Task.{Task}
use Rattle.bw_save.specs.Filled as spec
use Rattle.bw_save.proofs.filled.is_filled.Given as goal

abbrev pub invariant-loop-task : goal.invariant-loop-task
invariant-loop-task l =
    list_all (spec.is_filled l.typed.service) (map (λ (t : Task). t.doc.now) l.tasks.items) ≡ spec.is_filled l.typed.service l.doc

abbrev pub decreases-loop-task : goal.decreases-loop-task
decreases-loop-task l = sum_by parts (map (λ (t : Task). t.doc.now) l.tasks.items)
