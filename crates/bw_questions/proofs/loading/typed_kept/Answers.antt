use Rattle.std.proofs.Common.{Ok, Err, IfSome, is_some, subst, sym}
use Rattle.bw_lang.specs.Service.Reads.{Reads}
use Rattle.bw_types.specs.declared.typed.Typed.{Typed}
use Rattle.bw_questions.specs.Asked.{typed}
use Rattle.bw_questions.specs.Behind.{Shown}
use Rattle.bw_questions.specs.Questions.{IsAnswer}
use Rattle.bw_questions.proofs.Loads.{shown_reads}
use Rattle.bw_questions.proofs.loading.typed_kept.Goals as goal

pub resolved-requires-clause-readable : goal.resolved-requires-clause-readable
resolved-requires-clause-readable c = (c.args.bytes.now, c.requires.reads)

pub resolved-requires-clause-reads : goal.resolved-requires-clause-reads
resolved-requires-clause-reads c =
    subst (λ how. IfSome how (λ (shown : Shown). Reads shown.text c.args.service)) (sym c.seen_as.ensures)
    (shown_reads (is_some c.args.told) c.args.name.now c.args.bytes.now c.args.service c.requires.reads)

pub returns-in-Ok-clause-answers : goal.returns-in-Ok-clause-answers
returns-in-Ok-clause-answers c =
    subst (λ s. IsAnswer (λ (t : Typed). t.service) (typed s c.args.service) (Ok c.in-Ok.typed)) c.seen_as.ensures c.in-Ok.ensures.answers

pub returns-in-Err-clause-answers : goal.returns-in-Err-clause-answers
returns-in-Err-clause-answers c =
    subst (λ s. IsAnswer (λ (t : Typed). t.service) (typed s c.args.service) (Err c.in-Err.stop)) c.seen_as.ensures c.in-Err.ensures.answers
