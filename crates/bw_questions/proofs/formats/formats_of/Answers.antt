use Rattle.bw_questions.proofs.FormatFiles.{refused_formats}
use Rattle.bw_questions.proofs.formats.formats_of.Goals as goal

pub returns-in-Err-clause-answers : goal.returns-in-Err-clause-answers
returns-in-Err-clause-answers c = refused_formats c.args.bytes.now c.in-Err.fault c.format_line.result c.refused.result c.refused.ensures.line
    c.refused.ensures.memory c.format_line.ensures.line c.format_line.ensures.reason c.in-Err.ensures.fault
