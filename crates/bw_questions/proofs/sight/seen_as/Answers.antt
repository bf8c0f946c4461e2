use Rattle.bw_questions.proofs.sight.seen_as.Goals as goal

pub with_tokens-requires : goal.with_tokens-requires
with_tokens-requires c = rw c.in-Some.is at c.requires
