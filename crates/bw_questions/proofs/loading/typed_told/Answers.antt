use Rattle.std.proofs.Common.{subst, sym}
use Rattle.std.proofs.lemmas.Result.{IfOk-weaker}
use Rattle.bw_diagnose.proofs.Read.{told_lent}
use Rattle.bw_questions.specs.Asked.{read, typed}
use Rattle.bw_questions.specs.Behind.{AreKept, shown_if}
use Rattle.bw_questions.specs.Questions.{IsAnswer}
use Rattle.bw_questions.specs.declared.loading.Read.{Read}
use Rattle.bw_questions.proofs.Answering.{asks_next}
use Rattle.bw_questions.proofs.Loads.{unread, are_kept}
use Rattle.bw_questions.proofs.loading.typed_told.Goals as goal

pub typed_kept-requires-clause-told : goal.typed_kept-requires-clause-told
typed_kept-requires-clause-told c = (are_kept c.args.source c.args.bytes.now c.args.told c.kept.result c.kept.ensures c.requires).told_of

pub returns-in-Ok-clause-answers : goal.returns-in-Ok-clause-answers
returns-in-Ok-clause-answers c =
    let bytes = c.args.bytes.now in
    let name = c.args.name.now in
    let shown = shown_if c.args.source name bytes in
    let kept = are_kept c.args.source bytes c.args.told c.kept.result c.kept.ensures c.requires in
    asks_next _ (read shown bytes) (typed shown) c.in-Ok.service c.typed_kept.result c.in-Ok.ensures.read
    (subst (λ s. IsAnswer (λ (r : Read). r.typed.service) (typed (shown_if s name bytes) c.in-Ok.service) c.typed_kept.result) kept.asked
    c.typed_kept.ensures.answers)

pub returns-in-Ok-clause-kept : goal.returns-in-Ok-clause-kept
returns-in-Ok-clause-kept c =
    let bytes = c.args.bytes.now in
    IfOk-weaker c.typed_kept.result _ _
    (λ r e. subst (AreKept c.args.source bytes) (sym e) (are_kept c.args.source bytes c.args.told c.kept.result c.kept.ensures c.requires))
    c.typed_kept.ensures.kept

pub syntax_text-text-requires : goal.syntax_text-text-requires
syntax_text-text-requires c = told_lent c.args.bytes.now c.args.told c.in-Err.fault c.requires

pub returns-in-Err-clause-answers : goal.returns-in-Err-clause-answers
returns-in-Err-clause-answers c =
    unread (shown_if c.args.source c.args.name.now c.args.bytes.now) c.args.bytes.now c.in-Err.fault c.syntax_text-text.result c.refused_text.result
    c.refused_text.ensures.text c.refused_text.ensures.memory c.syntax_text-text.ensures.text c.syntax_text-text.ensures.reason c.in-Err.ensures.refused
