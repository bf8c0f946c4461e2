use Rattle.std.proofs.Common.{◌≡◌, drop, find}
use Rattle.std.specs.Prelude.{nat_lt}
use Rattle.bw_lang.specs.Service.Limits.{pair_lengths}
use Rattle.bw_lang.specs.Service.TermView.{fillings}
use Rattle.bw_limits.proofs.lengths.Search.+expression.Given as goal

abbrev pub invariant-pairs-loop-pair : goal.invariant-pairs-loop-pair
invariant-pairs-loop-pair l =
    find (nat_lt l.self.most) (pair_lengths l.self.leaf (fillings (drop l.pair-index l.pair-items)))
    ≡ find (nat_lt l.self.most) (pair_lengths l.self.leaf l.pairs)
