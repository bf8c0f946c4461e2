use Rattle.std.proofs.Common.{◌≡◌, drop, length}
use Rattle.bw_lang.specs.Service.CodeView.{code}
use Rattle.bw_types.specs.Faults.{code_faults}
use Rattle.bw_types.specs.Places.{after, outside}
use Rattle.bw_types.specs.Scopes.{scope_behind}
use Rattle.bw_types.proofs.names.Names.+block.Given as goal

-- the faults are those from here on, and the locals those here
abbrev pub invariant-block-loop-stmt : goal.invariant-block-loop-stmt
invariant-block-loop-stmt l = record {
  faults : code_faults l.self.service.now l.initial.locals (code l.stmt-items) ≡ code_faults l.self.service.now l.locals
      (code (drop l.stmt-index l.stmt-items));
  left : outside (length l.initial.locals.locals) (after l.locals (code (drop l.stmt-index l.stmt-items))) ≡ scope_behind l.initial.locals (code l.stmt-items);
}
