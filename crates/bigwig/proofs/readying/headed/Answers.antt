use Rattle.std.proofs.Common.{List, ℕ, ◌++◌, ap, ◌∙◌}
use Rattle.bw_journal.specs.Heads.{head_of}
use Rattle.bigwig.proofs.readying.headed.Goals as goal

pub returns-in-Ok-clause-read : goal.returns-in-Ok-clause-read
returns-in-Ok-clause-read c ruled content rotate f = record {
  is_found = f;
  start_is = c.in-Ok.ensures.bytes ∙ ap (λ (xs : List ℕ). xs ++ head_of c.args.text.now) c.new-head.ensures.items;
  sum_is = c.start_sum.ensures;
}
