use Rattle.bw_explain.specs.Aims.{walk_of}
use Rattle.bw_explain.specs.Tables.{size_at, IsNext}
use Rattle.bw_explain.specs.Walks.{seek_value}
use Rattle.bw_explain.proofs.settle.next_of.Given as goal

abbrev pub invariant-loop-n : goal.invariant-loop-n
invariant-loop-n l = IsNext l.n (size_at l.known) (seek_value l.walk.page.templates.now (walk_of l.walk) l.walk.low l.walk.high (size_at l.known)) l.next.at
    l.next.size
