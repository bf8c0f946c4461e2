use Rattle.std.proofs.Common.{refl}
use Rattle.bw_questions.specs.Asked.{file, lit}
use Rattle.bw_questions.proofs.Answering.{told_first}
use Rattle.bw_questions.proofs.Files.{front_answers}
use Rattle.bw_questions.proofs.FormatFiles.{lit_all}
use Rattle.bw_questions.proofs.lighting.light_file.Goals as goal

pub returns-in-Ok-clause-answers : goal.returns-in-Ok-clause-answers
returns-in-Ok-clause-answers g c =
    front_answers _ _ (lit c.args.formats.now) c.args.name.now _ _ 1048577 c.lights_of.result
    (λ content a. lit_all _ c.args.formats.now 1048577 content c.lights_of.result refl a) c.in-Ok.ensures.found c.deref.ensures.value
    c.lights_of.ensures.answers

pub returns-in-Err-clause-answers : goal.returns-in-Err-clause-answers
returns-in-Err-clause-answers g c = told_first _ (λ disk. file disk c.args.name.now) (λ disk. lit c.args.formats.now) c.in-Err.stop c.in-Err.ensures.stops
