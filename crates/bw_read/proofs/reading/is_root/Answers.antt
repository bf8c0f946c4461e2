use Rattle.std.proofs.Common.{◌∙◌, sym, ap}
use Rattle.bw_read.specs.Steps.Root as spec
use Rattle.bw_read.proofs.Decided.{rootless}
use Rattle.bw_read.proofs.reading.is_root.Goals as goal

pub returns-in_default-3 : goal.returns-in_default-3
returns-in_default-3 c = sym (ap spec.is_root (sym c.as_slice.ensures) ∙ rootless c.as_slice.result.now c.in_default.len_at_least)
