use Rattle.std.proofs.Common.{◌+◌, ◌-◌, ◌*◌, length}
use Rattle.bw_parse.proofs.expressions.+expression.Given as goal

abbrev pub decreases-atom : goal.decreases-atom
decreases-atom l = 20 * length l.lexemes.now + 3

abbrev pub decreases-by_meaning : goal.decreases-by_meaning
decreases-by_meaning l = 20 * length l.rest.now + 1

abbrev pub decreases-expr : goal.decreases-expr
decreases-expr l = 20 * length l.lexemes.now + (20 - 2 * l.level)

abbrev pub decreases-inside : goal.decreases-inside
decreases-inside l = 20 * length l.lexemes.now + 19

abbrev pub decreases-more : goal.decreases-more
decreases-more l = 20 * length l.lexemes.now + 1

abbrev pub decreases-pairs : goal.decreases-pairs
decreases-pairs l = 20 * length l.lexemes.now + 1

abbrev pub decreases-plugs : goal.decreases-plugs
decreases-plugs l = 20 * length l.lexemes.now + 1

abbrev pub decreases-prefix : goal.decreases-prefix
decreases-prefix l = 20 * length l.lexemes.now + 5
