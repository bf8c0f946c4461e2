use Rattle.bw_flow.proofs.Drafts.{Comes}
use Rattle.bw_flow.proofs.draft.Draft.+block.Given as goal

abbrev pub invariant-block-loop-stmt : goal.invariant-block-loop-stmt
invariant-block-loop-stmt l = Comes l.typed.service l.initial.self l.self l.stmt-items l.stmt-index l.inside l.next l.end
