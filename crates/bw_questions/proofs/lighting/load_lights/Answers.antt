use Rattle.bw_questions.specs.Asked.{formats_file, lit_file}
use Rattle.bw_questions.proofs.Answering.{told_first, told_next}
use Rattle.bw_questions.proofs.lighting.load_lights.Goals as goal

pub returns-in-Ok-clause-answers : goal.returns-in-Ok-clause-answers
returns-in-Ok-clause-answers g c =
    told_next _ _ _ (λ disk. formats_file disk c.args.formats.now) (λ disk. lit_file disk c.args.texts.now) c.in-Ok.formats _ c.in-Ok.ensures.told
    c.in-Ok.ensures.answers c.light_file-lit.ensures.answers

pub returns-in-Err-clause-answers : goal.returns-in-Err-clause-answers
returns-in-Err-clause-answers g c = told_first _ (λ disk. formats_file disk c.args.formats.now) (λ disk. lit_file disk c.args.texts.now) c.in-Err.stop
    c.in-Err.ensures.answers
