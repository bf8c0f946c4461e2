use Rattle.std.proofs.Common.{◌≡◌, drop, find}
use Rattle.std.specs.Prelude.{nat_lt}
use Rattle.bw_lang.specs.Service.Limits.{code_lengths}
use Rattle.bw_lang.specs.Service.CodeView.{code}
use Rattle.bw_limits.proofs.lengths.Search.+block.Given as goal

abbrev pub invariant-block-loop-stmt : goal.invariant-block-loop-stmt
invariant-block-loop-stmt l =
    find (nat_lt l.self.most) (code_lengths l.self.leaf (code (drop l.stmt-index l.stmt-items))) ≡ find (nat_lt l.self.most) (code_lengths l.self.leaf l.block)
