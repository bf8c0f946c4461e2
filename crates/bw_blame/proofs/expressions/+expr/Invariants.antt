use Rattle.std.proofs.Common.{◌≡◌, ◌+◌, ◌*◌, drop}
use Rattle.bw_lang.specs.Service.Term.{nodes, nodes_in}
use Rattle.bw_lang.specs.Service.TermView.{term, fillings}
use Rattle.bw_places.specs.Counts.{pair_tokens}
use Rattle.bw_blame.specs.Blames.{blames_in_pairs}
use Rattle.bw_blame.proofs.expressions.+expr.Given as goal

abbrev pub decreases-expr : goal.decreases-expr
decreases-expr l = 3 * nodes (term l.expr.now)

abbrev pub decreases-part_of : goal.decreases-part_of
decreases-part_of l = 3 * nodes l.part.now + 1

abbrev pub decreases-wanted_part : goal.decreases-wanted_part
decreases-wanted_part l = 3 * nodes l.part.now + 2

abbrev pub decreases-binary : goal.decreases-binary
decreases-binary l = 3 * (nodes l.left.now + nodes l.right.now) + 2

abbrev pub decreases-pairs_of : goal.decreases-pairs_of
decreases-pairs_of l = 3 * nodes_in l.pairs.now

abbrev pub decreases-pair_of : goal.decreases-pair_of
decreases-pair_of l = 3 * nodes (term l.pair.now.value) + 1

-- the blames are those from here on
abbrev pub invariant-pairs_of-loop-pair : goal.invariant-pairs_of-loop-pair
invariant-pairs_of-loop-pair l = record {
  ends : l.at + pair_tokens (fillings (drop l.pair-index l.pair-items)) ≡ l.p + pair_tokens l.pairs;
  rest : blames_in_pairs l.names.service.now l.locals l.d l.p l.pairs
      ≡ blames_in_pairs l.names.service.now l.locals l.d l.at (fillings (drop l.pair-index l.pair-items));
}
