use Rattle.std.proofs.Common.{Err, ap}
use Rattle.bigwig.specs.Lent.{seen_of}
use Rattle.bigwig.proofs.Endings.{words_come, usage_comes, memory_comes}
use Rattle.bigwig.proofs.Headline.{headline_told}
use Rattle.bigwig.proofs.program.obey_words.Goals as goal

pub returns-in-Ok-clause-comes : goal.returns-in-Ok-clause-comes
returns-in-Ok-clause-comes g c = words_come _ _ c.in-Ok.command _ _ _ c.in-Ok.ensures.ok.0 c.obey-status.ensures.comes

pub returns-in-Ok-clause-headline : goal.returns-in-Ok-clause-headline
returns-in-Ok-clause-headline g c = headline_told _ _ _ _ _ (words_come _ _ c.in-Ok.command _ _ _ c.in-Ok.ensures.ok.0 c.obey-status.ensures.comes)

pub returns-in-Err-Refused-clause-comes : goal.returns-in-Err-Refused-clause-comes
returns-in-Err-Refused-clause-comes g c =
    usage_comes _ _ _ _ _ (seen_of g.F.Files g.J.Journals g.D.Door g.K.Keys g.W.Channel c.args.lent.now) _
    (c.in-Err-Refused.ensures.refused (ap Err c.in-Err-Refused.field-0-is)) c.print_line.ensures.prints

pub returns-in-Err-Refused-clause-headline : goal.returns-in-Err-Refused-clause-headline
returns-in-Err-Refused-clause-headline g c =
    headline_told _ _ _ _ _ (usage_comes _ _ _ _ _ (seen_of g.F.Files g.J.Journals g.D.Door g.K.Keys g.W.Channel c.args.lent.now) _
    (c.in-Err-Refused.ensures.refused (ap Err c.in-Err-Refused.field-0-is)) c.print_line.ensures.prints)

pub returns-in-Err-Memory-clause-comes : goal.returns-in-Err-Memory-clause-comes
returns-in-Err-Memory-clause-comes g c = memory_comes _ _ _ _

pub returns-in-Err-Memory-clause-headline : goal.returns-in-Err-Memory-clause-headline
returns-in-Err-Memory-clause-headline g c =
    headline_told _ _ _ _ _ (memory_comes _ _ (seen_of g.F.Files g.J.Journals g.D.Door g.K.Keys g.W.Channel c.args.lent.now) _)
