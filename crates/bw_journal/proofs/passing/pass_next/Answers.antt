use Rattle.std.proofs.Common.{subst}
use Rattle.bw_journal.specs.Reading.{IsPassed}
use Rattle.bw_journal.specs.declared.passing.Passed.{Passed}
use Rattle.bw_journal.proofs.HeadParts.{passed_behind}
use Rattle.bw_journal.proofs.passing.pass_next.Goals as goal

pub returns-in-Behind : goal.returns-in-Behind
returns-in-Behind c = λ front bytes is.
    passed_behind c.args.want.now c.in-Behind.rest.now front bytes c.pass.result c.pass.ensures
    (subst (λ (p : Passed). IsPassed front bytes p) c.in-Behind.is is)
