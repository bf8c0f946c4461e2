use Rattle.std.proofs.Common.{◌≡◌, ◌+◌, ◌*◌, drop}
use Rattle.bw_lang.specs.Service.Term.{nodes, nodes_in}
use Rattle.bw_lang.specs.Service.TermView.{term, fillings}
use Rattle.bw_types.specs.ExpressionFaults.{faults_in_pairs}
use Rattle.bw_types.proofs.names.Names.+expr.Given as goal

abbrev pub decreases-expr : goal.decreases-expr
decreases-expr l = 2 * nodes (term l.expr.now)

abbrev pub decreases-part : goal.decreases-part
decreases-part l = 2 * nodes l.part.now + 1

abbrev pub decreases-binary : goal.decreases-binary
decreases-binary l = 2 * (nodes l.left.now + nodes l.right.now) + 1

abbrev pub decreases-pairs : goal.decreases-pairs
decreases-pairs l = 2 * nodes_in l.pairs.now

abbrev pub decreases-pair : goal.decreases-pair
decreases-pair l = 2 * nodes (term l.pair.now.value) + 1

-- the faults are those from here on
abbrev pub invariant-pairs-loop-pair : goal.invariant-pairs-loop-pair
invariant-pairs-loop-pair l = faults_in_pairs l.self.service.now l.locals (fillings l.pair-items) ≡ faults_in_pairs l.self.service.now l.locals
    (fillings (drop l.pair-index l.pair-items))
