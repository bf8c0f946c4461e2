use Rattle.std.proofs.Common.{List, refl}
use Rattle.bw_format.specs.declared.format.Format.{Format}
use Rattle.bw_questions.specs.Asked.{file, formats_in}
use Rattle.bw_questions.proofs.Answering.{told_first}
use Rattle.bw_questions.proofs.Files.{front_answers}
use Rattle.bw_questions.proofs.FormatFiles.{formats_all}
use Rattle.bw_questions.proofs.formats.load_formats.Goals as goal

pub returns-in-Ok-clause-answers : goal.returns-in-Ok-clause-answers
returns-in-Ok-clause-answers g c =
    front_answers (λ (x : List Format). x) _ formats_in c.args.name.now _ _ 65537 c.formats_of.result
    (λ content a. formats_all (λ (x : List Format). x) 65537 content c.formats_of.result refl a) c.in-Ok.ensures.found c.deref.ensures.value
    c.formats_of.ensures.answers

pub returns-in-Err-clause-answers : goal.returns-in-Err-clause-answers
returns-in-Err-clause-answers g c = told_first _ (λ disk. file disk c.args.name.now) (λ disk. formats_in) c.in-Err.stop c.in-Err.ensures.stops
