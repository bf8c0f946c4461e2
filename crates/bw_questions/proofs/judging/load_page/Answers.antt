use Rattle.std.proofs.Common.{refl}
use Rattle.bw_questions.specs.Asked.{file, page}
use Rattle.bw_questions.proofs.Answering.{told_first}
use Rattle.bw_questions.proofs.Files.{front_answers}
use Rattle.bw_questions.proofs.Pages.{page_all}
use Rattle.bw_questions.proofs.judging.load_page.Goals as goal

pub returns-in-Ok-clause-answers : goal.returns-in-Ok-clause-answers
returns-in-Ok-clause-answers g c =
    front_answers _ _ page c.args.name.now _ _ 4195329 c.page_of.result
    (λ content a. page_all _ 4195329 content c.page_of.result refl a) c.in-Ok.ensures.found c.deref.ensures.value c.page_of.ensures.answers

pub returns-in-Err-clause-answers : goal.returns-in-Err-clause-answers
returns-in-Err-clause-answers g c = told_first _ (λ disk. file disk c.args.name.now) (λ disk. page) c.in-Err.stop c.in-Err.ensures.stops
