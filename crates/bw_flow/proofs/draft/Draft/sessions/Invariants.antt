use Rattle.bw_flow.proofs.Drafts.{Goes}
use Rattle.bw_flow.proofs.draft.Draft.sessions.Given as goal

abbrev pub invariant-loop-session : goal.invariant-loop-session
invariant-loop-session l = Goes l.typed.service l.initial.self l.self l.firsts.items l.sessions l.session-index l.out
