use Rattle.std.proofs.Common.{◌≡◌, ◌+◌, drop}
use Rattle.bw_lang.specs.Service.CodeView.{code}
use Rattle.bw_places.specs.Counts.{code_tokens}
use Rattle.bw_places.specs.Scopes.{locals_at}
use Rattle.bw_places.proofs.scopes.+scope.Given as goal

abbrev pub invariant-locals_at-loop-stmt : goal.invariant-locals_at-loop-stmt
invariant-locals_at-loop-stmt l = record {
  ends : l.place + code_tokens (code (drop l.stmt-index l.stmt-items)) ≡ l.at + code_tokens l.block;
  scope : locals_at l.block l.at l.to l.initial.names ≡ locals_at (code (drop l.stmt-index l.stmt-items)) l.place l.to l.names;
}
