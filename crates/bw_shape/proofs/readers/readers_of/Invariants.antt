use Rattle.bw_shape.specs.Rows.Rounds.{AreReadersBelow}
use Rattle.bw_shape.proofs.readers.readers_of.Given as goal

abbrev pub invariant-loop-n : goal.invariant-loop-n
invariant-loop-n g l = AreReadersBelow l.n l.rows (g.R.Rule.links l.rule) l.readers.items
