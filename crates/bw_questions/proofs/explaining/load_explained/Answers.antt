use Rattle.std.proofs.Common.{◌≡◌, Option, Some, Err, Result, IfSome, is_some, codes, ap, sym, subst, ◌∙◌}
use Rattle.bw_lang.specs.Service.Reads.{Reads}
use Rattle.bw_out.specs.Told.{Disk}
use Rattle.bw_syntax.specs.Told.{IsTold}
use Rattle.bw_questions.specs.Asked.{Work, check_work, examined, examined_by, examined_file, schema, service_file}
use Rattle.bw_questions.specs.Asked.Work.{prints}
use Rattle.bw_questions.specs.Behind.{Shown, shown_file, shown_if}
use Rattle.bw_questions.specs.Questions.{IsAnswer, line}
use Rattle.bw_questions.proofs.Answering.{by_name, told_first, told_next}
use Rattle.bw_questions.proofs.Checks.{quiet_shows}
use Rattle.bw_questions.proofs.Loads.{shown_reads, shown_told}
use Rattle.bw_questions.proofs.Pages.{if_told}
use Rattle.bw_questions.proofs.Stops.{told_handed}
use Rattle.bw_questions.proofs.explaining.load_explained.Goals as goal

-- that the service is accepted is printed
abbrev accepted : Unit {0} → Work
accepted done = prints (line (codes "accepted"))

pub returns-in_err-loaded-clause-answers : goal.returns-in_err-loaded-clause-answers
returns-in_err-loaded-clause-answers g c =
    let judging = c.args.judging.now in
    let name = c.as_str-name.result.now in
    let how : Disk → Option Shown = λ disk. shown_file judging.source disk name in
    by_name _ (λ disk asked. IsAnswer accepted (examined_file disk asked judging) c.from_residual.result) _ _ c.as_str-name.ensures.text
    (told_handed accepted _ (λ disk. examined_file disk name judging) c.from_residual.result _ c.from_residual.ensures.1
    (told_first _ (λ disk. service_file (how disk) disk name) (λ disk. examined_by (how disk) disk judging.schema) _ c.in_err-loaded.ensures.answers))

pub returns-in-Err-clause-answers : goal.returns-in-Err-clause-answers
returns-in-Err-clause-answers g c =
    let judging = c.args.judging.now in
    let name = c.as_str-name.result.now in
    let how : Disk → Option Shown = λ disk. shown_file judging.source disk name in
    let tree = c.in_ok-loaded.loaded.typed.service in
    by_name _ (λ disk asked. IsAnswer accepted (examined_file disk asked judging) (Err c.in-Err.stop)) _ _ c.as_str-name.ensures.text
    (told_next accepted _ _ (λ disk. service_file (how disk) disk name) (λ disk. examined_by (how disk) disk judging.schema) tree (Err c.in-Err.stop)
    c.in_ok-loaded.ensures.told c.in_ok-loaded.ensures.answers
    (told_first _ (λ disk. schema disk judging.schema) (λ disk. examined (how disk) tree) _ c.in-Err.ensures.answers))

pub seen_as-how-requires : goal.seen_as-how-requires
seen_as-how-requires g c =
    subst (λ t. IfSome c.in_ok-loaded.loaded.told (IsTold t)) (sym c.deref.ensures.value) c.in_ok-loaded.ensures.kept.told_of

pub examine-answer-requires-clause-reads : goal.examine-answer-requires-clause-reads
examine-answer-requires-clause-reads g c = λ κs l.
    let tree = c.in_ok-loaded.loaded.typed.service in
    subst (λ how. IfSome how (λ (shown : Shown). Reads shown.text tree)) (sym c.seen_as-how.ensures)
    (shown_reads (is_some c.in_ok-loaded.loaded.told) c.as_str-name.result.now c.deref.result.now tree
    (subst (λ t. Reads t tree) (sym c.deref.ensures.value) c.in_ok-loaded.ensures.reads))

pub returns-in-Ok-clause-answers : goal.returns-in-Ok-clause-answers
returns-in-Ok-clause-answers g c =
    let judging = c.args.judging.now in
    let name = c.as_str-name.result.now in
    let how : Disk → Option Shown = λ disk. shown_file judging.source disk name in
    let tree = c.in_ok-loaded.loaded.typed.service in
    let r = c.examine-answer.result in
    by_name _ (λ disk asked. IsAnswer accepted (examined_file disk asked judging) r) _ _ c.as_str-name.ensures.text
    (told_next accepted _ _ (λ disk. service_file (how disk) disk name) (λ disk. examined_by (how disk) disk judging.schema) tree r
    c.in_ok-loaded.ensures.told c.in_ok-loaded.ensures.answers
    (told_next accepted _ _ (λ disk. schema disk judging.schema) (λ disk. examined (how disk) tree) c.in-Ok.schema r c.in-Ok.ensures.told
    c.in-Ok.ensures.answers
    (shown_told accepted judging.source _ _ name c.in_ok-loaded.loaded.text.items _ (λ how disk. examined how tree c.in-Ok.schema) r
    (c.in-Ok.ensures.told ∙ c.in_ok-loaded.ensures.told) c.in_ok-loaded.ensures.text
    (c.seen_as-how.ensures ∙ ap (λ s. shown_if s name c.deref.result.now) c.in_ok-loaded.ensures.kept.asked
    ∙ ap (shown_if judging.source name) c.deref.ensures.value) (if_told _ c.examine-answer.ensures.answers))))

pub returns-in-Ok-clause-read_fault : goal.returns-in-Ok-clause-read_fault
returns-in-Ok-clause-read_fault g c =
    quiet_shows c.examine-answer.result c.in_ok-loaded.loaded c.in-Ok.schema _ _ _ c.in_ok-loaded.ensures.read_fault c.in-Ok.ensures.read_fault
    c.examine-answer.ensures.no_read
