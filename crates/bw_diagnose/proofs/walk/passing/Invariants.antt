use Rattle.std.proofs.Common.{◌≡◌, ◌≤◌, drop}
use Rattle.bw_diagnose.specs.Walks as spec
use Rattle.bw_diagnose.proofs.walk.passing.Given as goal

abbrev pub invariant-loop-at : goal.invariant-loop-at
invariant-loop-at l = record {
  depth : l.walk.depth ≤ l.at;
  count : l.walk.count ≤ l.most;
  rest : spec.passing l.limit l.at l.walk (drop l.at l.lexemes) ≡ spec.passing l.limit 0 (record { depth = 0; count = 0 }) l.lexemes;
}
