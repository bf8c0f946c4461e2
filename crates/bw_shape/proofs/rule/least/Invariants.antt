use Rattle.std.proofs.Common.{suc, cond}
use Rattle.bw_shape.specs.Rows.Rows.{missing}
use Rattle.bw_shape.proofs.Rows.Rounds.{Kept}
use Rattle.bw_shape.proofs.rule.least.Given as goal

abbrev pub invariant-loop-changed : goal.invariant-loop-changed
invariant-loop-changed g l = Kept (g.R.Rule.width l.rule) (g.R.Rule.rows l.rule) (g.R.Rule.follows l.rule) l.order l.known l.due l.changed

abbrev pub decreases-loop-changed : goal.decreases-loop-changed
decreases-loop-changed g l = cond l.changed (suc (missing (g.R.Rule.width l.rule) l.known)) 0
