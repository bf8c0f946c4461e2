use Rattle.bw_questions.specs.Behind.{shown_of}
use Rattle.bw_questions.proofs.Loads.{ill_typed}
use Rattle.bw_questions.proofs.loading.resolved.Goals as goal

pub returns-clause-answers : goal.returns-clause-answers
returns-clause-answers c =
    ill_typed (shown_of c.args.how) c.args.service _ c.in-Err.fault c.type_text.result c.refused_text.result c.refused_text.ensures.text
    c.refused_text.ensures.memory c.type_text.ensures.text c.type_text.ensures.reason c.in-Ok.ensures c.in-Err.ensures.fault
