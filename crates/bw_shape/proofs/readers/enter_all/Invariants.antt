use Rattle.bw_shape.specs.Rows.Rounds.{Entered}
use Rattle.bw_shape.proofs.readers.enter_all.Given as goal

abbrev pub invariant-loop-link : goal.invariant-loop-link
invariant-loop-link l = Entered l.n l.links l.link-index l.initial.readers.items l.readers.items
