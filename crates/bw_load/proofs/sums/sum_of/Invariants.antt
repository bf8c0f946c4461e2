use Rattle.std.proofs.Common.{◌≡◌, ◌∷◌, [], length, Some}
use Rattle.std.specs.List.{AllByRecursion}
use Rattle.bw_load.specs.Sums.{sum_of, all_done, IsKnown}
use Rattle.bw_saved.specs.Documents.Left.{all_left}
use Rattle.bw_load.proofs.sums.sum_of.Given as goal

abbrev pub invariant-loop-sums : goal.invariant-loop-sums
invariant-loop-sums l = record {
  left : all_done l.typed.service (all_left l.left.items) l.sums ≡ Some (sum_of l.typed.service l.doc ∷ []);
  known : AllByRecursion (IsKnown l.typed.service) (all_left l.left.items);
}

abbrev pub decreases-loop-sums : goal.decreases-loop-sums
decreases-loop-sums l = length (all_left l.left.items)
