use Rattle.std.proofs.Common.{◌++◌, ◌∙◌, ap, List, ℕ}
use Rattle.bw_save.proofs.Chains.{all_fit, all_bytes}
use Rattle.bw_save.proofs.values.put_variables.Goals as goal

pub put_all-requires : goal.put_all-requires
put_all-requires c = all_fit c.as_slice.result.now c.args.all.now c.as_slice.ensures c.requires

pub returns : goal.returns
returns c = c.in_ok-put_all.ensures ∙ ap (λ (b : List ℕ). c.args.out.now.items ++ b) (all_bytes c.as_slice.result.now c.args.all.now c.as_slice.ensures)
