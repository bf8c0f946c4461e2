use Rattle.std.proofs.Common.{◌≡◌, ◌-◌, ◌<◌, ◌≤◌, length, take}
use Rattle.std.specs.declared.cmp.Ordering.TheVariants.{Less}
use Rattle.std.specs.List.{AllByRecursion}
use Rattle.bw_solve.proofs.set.run_below.Given as goal

abbrev pub invariant-loop-run : goal.invariant-loop-run
invariant-loop-run g l = record {
  some : 0 < l.run;
  within : l.run ≤ length l.items;
  below : AllByRecursion (λ y. g.T.Ord.cmp y l.value ≡ Less) (take l.run l.items);
}

abbrev pub decreases-loop-run : goal.decreases-loop-run
decreases-loop-run g l = length l.items - l.run
