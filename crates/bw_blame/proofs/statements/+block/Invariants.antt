use Rattle.std.proofs.Common.{◌≡◌, ◌+◌, drop, length}
use Rattle.bw_lang.specs.Service.CodeView.{code}
use Rattle.bw_places.specs.Counts.{code_tokens}
use Rattle.bw_types.specs.Places.{after, outside}
use Rattle.bw_types.specs.Scopes.{scope_behind}
use Rattle.bw_blame.specs.Blames.{blames_code}
use Rattle.bw_blame.proofs.statements.+block.Given as goal

abbrev pub invariant-block-loop-stmt : goal.invariant-block-loop-stmt
invariant-block-loop-stmt l = record {
  ends : l.at + code_tokens (code (drop l.stmt-index l.stmt-items)) ≡ l.p + code_tokens (code l.stmt-items);
  rest : blames_code l.names.service.now l.initial.locals l.d l.p (code l.stmt-items)
      ≡ blames_code l.names.service.now l.locals l.d l.at (code (drop l.stmt-index l.stmt-items));
  left : outside (length l.initial.locals.locals) (after l.locals (code (drop l.stmt-index l.stmt-items)))
      ≡ scope_behind l.initial.locals (code l.stmt-items);
}
