use Rattle.bw_visit.proofs.Turned.{next_by, empty_is, shrinks_by}
use Rattle.bw_visit.specs.Visits.{no_line}
use Rattle.bw_visit.proofs.turns.go_on.Goals as goal

pub returns-then-is_empty-clause-next : goal.returns-then-is_empty-clause-next
returns-then-is_empty-clause-next c = no_line (empty_is c.args.lines.now c.if-is_empty.ensures)

pub returns-clause-next : goal.returns-clause-next
returns-clause-next c =
    next_by c.args.body.now c.args.lines.now c.in-Some.line.now c.in-Some.later.now c.answer_line.new.message.items c.answer_line.result c.in-Some.ensures
    c.answer_line.ensures.answered

pub returns-clause-shrinks : goal.returns-clause-shrinks
returns-clause-shrinks c =
    shrinks_by c.args.lines.now c.in-Some.line.now c.in-Some.later.now c.answer_line.new.message.items c.answer_line.result c.in-Some.ensures
    c.requires.lines c.answer_line.ensures.keeps
