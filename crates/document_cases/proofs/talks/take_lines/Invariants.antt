use Rattle.document_cases.specs.Fit.{IsFit}
use Rattle.document_cases.proofs.talks.take_lines.Given as goal

abbrev pub invariant-loop-line : goal.invariant-loop-line
invariant-loop-line g l = IsFit l.typed.service l.flow.steps l.talk
