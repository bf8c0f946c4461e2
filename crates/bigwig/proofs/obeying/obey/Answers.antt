use Rattle.bigwig.specs.Asked.{work}
use Rattle.bigwig.specs.Lent.{seen_of}
use Rattle.bw_command.specs.declared.command.Command.TheVariants.{Check, Valid, Make, Light}
use Rattle.bigwig.proofs.Endings.{of_command, speaks_comes}
use Rattle.bigwig.proofs.Sending.{made_speaks}
use Rattle.bigwig.proofs.obeying.obey.Goals as goal

pub returns-in-Check-clause-comes : goal.returns-in-Check-clause-comes
returns-in-Check-clause-comes g c =
    of_command _ _ _ _ _ _ c.in-Check.is (speaks_comes _ (λ disk. work disk (Check c.in-Check.service c.in-Check.judging c.in-Check.explain)) _ _ _
    (seen_of g.F.Files g.J.Journals g.D.Door g.K.Keys g.W.Channel c.args.lent.now) _ c.check_command.ensures.comes)

pub returns-in-Valid-clause-comes : goal.returns-in-Valid-clause-comes
returns-in-Valid-clause-comes g c =
    of_command _ _ _ _ _ _ c.in-Valid.is (speaks_comes _ (λ disk. work disk (Valid c.in-Valid.page c.in-Valid.schema)) _ _ _
    (seen_of g.F.Files g.J.Journals g.D.Door g.K.Keys g.W.Channel c.args.lent.now) _ c.valid_command.ensures.comes)

pub returns-in-Make-clause-comes : goal.returns-in-Make-clause-comes
returns-in-Make-clause-comes g c =
    of_command _ _ _ _ _ _ c.in-Make.is (speaks_comes _ (λ disk. work disk (Make c.in-Make.count c.in-Make.workers)) _ _ _
    (seen_of g.F.Files g.J.Journals g.D.Door g.K.Keys g.W.Channel c.args.lent.now) _
    (made_speaks _ c.in-Make.count _ _ _ c.make_command.ensures.comes))

pub returns-in-Light-clause-comes : goal.returns-in-Light-clause-comes
returns-in-Light-clause-comes g c =
    of_command _ _ _ _ _ _ c.in-Light.is (speaks_comes _ (λ disk. work disk (Light c.in-Light.formats c.in-Light.texts)) _ _ _
    (seen_of g.F.Files g.J.Journals g.D.Door g.K.Keys g.W.Channel c.args.lent.now) _ c.light_command.ensures.comes)
