use Rattle.std.proofs.Common.{◌≡◌, ◌+◌, ◌++◌, drop}
use Rattle.bw_lang.specs.Service.CodeView.{code}
use Rattle.bw_places.specs.Counts.{code_tokens}
use Rattle.bw_places.specs.Seeking.{spans}
use Rattle.bw_places.proofs.seeking.+spans.Given as goal

abbrev pub invariant-push_block-loop-stmt : goal.invariant-push_block-loop-stmt
invariant-push_block-loop-stmt l = record {
  ends : l.place + code_tokens (code (drop l.stmt-index l.stmt-items)) ≡ l.at + code_tokens l.block;
  pushed : l.list.items ++ spans (code (drop l.stmt-index l.stmt-items)) l.place ≡ l.initial.list.items ++ spans l.block l.at;
}
