use Rattle.std.proofs.Common.{◌≡◌, length, take}
use Rattle.bw_lang.specs.Service.CodeNames.{local_names}
use Rattle.bw_lang.specs.Service.CodeView.{code}
use Rattle.bw_limits.proofs.locals.+locals.Given as goal

abbrev pub invariant-in_block-loop-stmt : goal.invariant-in_block-loop-stmt
invariant-in_block-loop-stmt l = l.total ≡ length (local_names (code (take l.stmt-index l.stmt-items)))
