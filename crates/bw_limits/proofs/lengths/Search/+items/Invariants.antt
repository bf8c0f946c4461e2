use Rattle.std.proofs.Common.{◌≡◌, drop, find}
use Rattle.std.specs.Prelude.{nat_lt}
use Rattle.bw_lang.specs.Service.Limits.{item_lengths}
use Rattle.bw_lang.specs.Document.View.{forest}
use Rattle.bw_limits.proofs.lengths.Search.+items.Given as goal

abbrev pub invariant-items-loop-item : goal.invariant-items-loop-item
invariant-items-loop-item l =
    find (nat_lt l.self.most) (item_lengths l.gaps (forest (drop l.item-index l.item-items))) ≡ find (nat_lt l.self.most) (item_lengths l.gaps l.items)
