use Rattle.std.proofs.Common.{◌≡◌, ◌∙◌, sym}
use Rattle.bw_saved.proofs.LeftLaws.{next_due, next_left}
use Rattle.bw_saved.proofs.operations.next.Goals as goal

pub returns-then-branch : goal.returns-then-branch
returns-then-branch c =
    sym c.loop-task.invariant
    ∙ next_due c.loop-task.tasks.items c.pop.new.self.items c.is_last.new.tasks.items c.in-Some.task c.in_ok-is_last.field-0 c.in-Some.ensures.items
    c.in_ok-is_last.ensures c.if-branch.true

pub loop-task-smaller : goal.loop-task-smaller
loop-task-smaller c =
    (next_left c.loop-task.tasks.items c.pop.new.self.items c.is_last.new.tasks.items c.in-Some.task c.in_ok-is_last.field-0 c.in-Some.ensures.items
    c.in_ok-is_last.ensures c.if-branch.false).1

pub loop-task-preserved : goal.loop-task-preserved
loop-task-preserved c =
    (next_left c.loop-task.tasks.items c.pop.new.self.items c.is_last.new.tasks.items c.in-Some.task c.in_ok-is_last.field-0 c.in-Some.ensures.items
    c.in_ok-is_last.ensures c.if-branch.false).0 ∙ c.loop-task.invariant
