use Rattle.std.proofs.Common.{◌≡◌, ◌-◌}
use Rattle.bw_diagnose.specs.Finding as spec
use Rattle.bw_diagnose.proofs.finding.first_in.Given as goal

abbrev pub invariant-loop-at : goal.invariant-loop-at
invariant-loop-at l = spec.first l.wanted l.lexemes l.name l.at (l.fn.span.to - l.at) ≡ spec.first_in l.wanted l.lexemes l.name l.fn.span
