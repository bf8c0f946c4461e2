use Rattle.bw_questions.proofs.Pages.{unread}
use Rattle.bw_questions.proofs.schemas.rules_of.Goals as goal

pub returns-in-Err-clause-answers : goal.returns-in-Err-clause-answers
returns-in-Err-clause-answers c = unread c.args.bytes.now c.in-Err.fault c.schema_line.result c.refused.result c.refused.ensures.line c.refused.ensures.memory
    c.schema_line.ensures.line c.schema_line.ensures.reason c.in-Err.ensures.refused
