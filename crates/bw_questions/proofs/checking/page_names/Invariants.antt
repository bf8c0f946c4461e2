use Rattle.std.proofs.Common.{◌≡◌, map, take}
use Rattle.bw_questions.proofs.checking.page_names.Given as goal

abbrev pub invariant-loop-template : goal.invariant-loop-template
invariant-loop-template l = l.names ≡ map (λ t. t.name) (take l.template-index l.template-items)
