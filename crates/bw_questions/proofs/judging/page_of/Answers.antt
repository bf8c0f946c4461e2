use Rattle.std.proofs.Common.{subst}
use Rattle.bw_read.specs.Refusals.{IsNoPage}
use Rattle.bw_questions.proofs.Pages.{no_page}
use Rattle.bw_questions.proofs.judging.page_of.Goals as goal

pub returns-in-Err-NotAPage-clause-answers : goal.returns-in-Err-NotAPage-clause-answers
returns-in-Err-NotAPage-clause-answers c =
    no_page c.args.bytes.now c.no_page_line.result c.refused.result c.refused.ensures.line c.refused.ensures.memory c.no_page_line.ensures
    (subst (IsNoPage c.args.bytes.now) c.in-Err-NotAPage.field-0-is c.in-Err-NotAPage.ensures.page)
