use Rattle.std.proofs.Common.{◌≡◌}
use Rattle.bw_analyse.specs.Constants.{first_constants}
use Rattle.bw_analyse.proofs.tables.constants_of.Given as goal

abbrev pub invariant-loop-number : goal.invariant-loop-number
invariant-loop-number l = l.list.items ≡ first_constants l.typed.service l.number
