use Rattle.std.proofs.Common.{inr, rules}
use Rattle.bw_keeping.proofs.Counting.{on_ok}
use Rattle.bw_keeping.proofs.flushing.keep_bytes.Goals as goal

pub returns-clause-keeps : goal.returns-clause-keeps
returns-clause-keeps g c = on_ok c.keep.result (λ does. inr (λ none. search rules, does)) c.keep.ensures.done
