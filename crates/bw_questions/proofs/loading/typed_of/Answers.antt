use Rattle.bw_diagnose.proofs.Read.{untold_lent}
use Rattle.bw_syntax.proofs.Stages.{untold_refuses}
use Rattle.bw_questions.specs.Behind.{shown_if}
use Rattle.bw_questions.proofs.Loads.{unread}
use Rattle.bw_questions.proofs.loading.typed_of.Goals as goal

pub syntax_text-text-requires : goal.syntax_text-text-requires
syntax_text-text-requires c = untold_lent c.args.bytes.now c.none.result c.in-Err.fault c.in-Err.ensures.untold

pub returns-in-Err-clause-answers : goal.returns-in-Err-clause-answers
returns-in-Err-clause-answers c =
    unread (shown_if c.args.source c.args.name.now c.args.bytes.now) c.args.bytes.now c.in-Err.fault c.syntax_text-text.result c.refused_text.result
    c.refused_text.ensures.text c.refused_text.ensures.memory c.syntax_text-text.ensures.text c.syntax_text-text.ensures.reason
    (untold_refuses c.args.bytes.now c.in-Err.fault c.in-Err.ensures.untold)
