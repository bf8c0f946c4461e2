use Rattle.std.proofs.Common.{List}
use Rattle.bw_format.specs.declared.format.Format.{Format}
use Rattle.bw_questions.proofs.FormatFiles.{named_formats, no_formats}
use Rattle.bw_questions.proofs.formats.formats_for.Goals as goal

pub returns-in-Some-clause-answers : goal.returns-in-Some-clause-answers
returns-in-Some-clause-answers g c =
    named_formats (λ (x : List Format). x) _ _ c.in-Some.name _ _ c.in-Some.is c.as_str.ensures.text c.load_formats.ensures.answers

pub returns-in-None-clause-answers : goal.returns-in-None-clause-answers
returns-in-None-clause-answers g c = no_formats _ _ c.none.result c.in-None.is c.none.ensures
