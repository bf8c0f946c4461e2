use Rattle.std.proofs.Common.{List, ℕ, ◌++◌, ap, ◌∙◌}
use Rattle.bw_journal.specs.Saved.{saved_head}
use Rattle.bigwig.proofs.Readied.{renewing}
use Rattle.bigwig.proofs.readying.anew.Goals as goal

pub returns-in-Ok-clause-read : goal.returns-in-Ok-clause-read
returns-in-Ok-clause-read c =
    let text = c.args.text.now in
    let saved = c.args.saved.now in
    renewing c.args.server.formats text saved c.put_saved_head.new.out.items c.in-Ok.sum c.args.server.world
    (c.in-Ok.ensures.bytes ∙ ap (λ (xs : List ℕ). xs ++ saved_head text saved) c.new-head.ensures.items) c.in-Ok.ensures.sum
