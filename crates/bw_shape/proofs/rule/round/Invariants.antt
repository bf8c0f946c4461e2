use Rattle.bw_shape.specs.Rows.Rounds.{Round}
use Rattle.bw_shape.proofs.rule.round.Given as goal

abbrev pub invariant-loop-n : goal.invariant-loop-n
invariant-loop-n g l =
    Round (g.R.Rule.width l.rule) (g.R.Rule.rows l.rule) (g.R.Rule.follows l.rule) l.order l.n-index l.initial.known l.known l.initial.due l.due l.changed
