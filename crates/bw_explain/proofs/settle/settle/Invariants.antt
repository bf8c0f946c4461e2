use Rattle.std.proofs.Common.{◌≡◌, ◌==◌, length}
use Rattle.std.specs.List.{sum_by}
use Rattle.bw_explain.specs.Aims.{walk_of, Has}
use Rattle.bw_explain.specs.Sizes.{if_so}
use Rattle.bw_explain.specs.Tables.{size_at, IsNext, Settled}
use Rattle.bw_explain.specs.Walks.{seek_value}
use Rattle.bw_explain.proofs.settle.settle.Given as goal

abbrev pub invariant-loop-next : goal.invariant-loop-next
invariant-loop-next l = record {
  settled : Settled (Has l.walk.page l.walk.aim l.walk.low l.walk.high) l.known;
  long : length l.known.sizes ≡ length l.walk.page.templates.now;
  docs : length l.known.docs ≡ length l.known.sizes;
  past : l.known.past ≡ if_so (l.walk.low == l.walk.high) 0;
  next : IsNext (length l.walk.page.templates.now) (size_at l.known) (seek_value l.walk.page.templates.now (walk_of l.walk) l.walk.low l.walk.high
      (size_at l.known)) l.next.at l.next.size;
}

abbrev pub decreases-loop-next : goal.decreases-loop-next
decreases-loop-next l = sum_by (λ s. s) l.known.sizes
