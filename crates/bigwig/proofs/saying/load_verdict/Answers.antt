use Rattle.std.proofs.Common.{Bool, IfSome, codes, subst, sym}
use Rattle.bw_questions.specs.Asked.{check_work}
use Rattle.bw_questions.specs.Asked.Work.{prints}
use Rattle.bw_questions.specs.Questions.{IsAnswer, line}
use Rattle.bigwig.proofs.saying.load_verdict.Goals as goal

pub returns-then-explain-clause-answers : goal.returns-then-explain-clause-answers
returns-then-explain-clause-answers g c =
    subst (λ (b : Bool). IfSome (g.F.Files.told c.args.files.now)
    (λ disk. IsAnswer (λ done. prints (line (codes "accepted"))) (check_work disk c.args.service.now c.args.judging.now b) c.load_explained.result))
    (sym c.if-explain.true) c.load_explained.ensures.answers

pub returns-else-explain-clause-answers : goal.returns-else-explain-clause-answers
returns-else-explain-clause-answers g c =
    subst (λ (b : Bool). IfSome (g.F.Files.told c.args.files.now)
    (λ disk. IsAnswer (λ done. prints (line (codes "accepted"))) (check_work disk c.args.service.now c.args.judging.now b) c.load_accepted.result))
    (sym c.if-explain.false) c.load_accepted.ensures.answers
