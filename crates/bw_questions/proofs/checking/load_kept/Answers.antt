use Rattle.std.proofs.Common.{◌≡◌, Some, Ok, Err, Result, IfSome, is_some, ap, sym, subst, ◌∙◌}
use Rattle.bw_lang.specs.Service.Reads.{Reads}
use Rattle.bw_syntax.specs.Told.{IsTold}
use Rattle.bw_questions.specs.Asked.{accepted_file, service_file, checked_by, checked_with, schema}
use Rattle.bw_questions.specs.Behind.{Shown, shown_if, shown_file}
use Rattle.bw_questions.specs.Checks.{ruled_by}
use Rattle.bw_questions.specs.Asked.{Ruled}
use Rattle.bw_questions.specs.Questions.{IsAnswer}
use Rattle.bw_questions.specs.declared.checking.Kept.{Kept}
use Rattle.bw_questions.specs.declared.stop.Stop.{Stop}
use Rattle.bw_questions.proofs.Answering.{by_name, told_first, told_next}
use Rattle.bw_questions.proofs.Checks.{none_shows}
use Rattle.bw_questions.proofs.Loads.{shown_told, shown_reads}
use Rattle.bw_questions.proofs.Stops.{told_handed}
use Rattle.bw_questions.proofs.checking.load_kept.Goals as goal

-- the service that is kept with its text
abbrev kept_by : Kept → Ruled
kept_by kept = ruled_by kept.served

pub returns-in_err-loaded-clause-answers : goal.returns-in_err-loaded-clause-answers
returns-in_err-loaded-clause-answers g c =
    let judging = c.args.named.judging.now in
    let form = c.args.named.formats.now in
    let source = judging.source in
    by_name _ (λ disk name. IsAnswer kept_by (accepted_file disk name judging form) c.from_residual.result) _ _ c.as_str-name.ensures.text
    (told_handed kept_by _ (λ disk. accepted_file disk c.as_str-name.result.now judging form) c.from_residual.result _ c.from_residual.ensures.1
    (told_first _ (λ disk. service_file (shown_file source disk c.as_str-name.result.now) disk c.as_str-name.result.now)
    (λ disk. checked_by (shown_file source disk c.as_str-name.result.now) disk judging.schema form) _ c.in_err-loaded.ensures.answers))

pub returns-in-Err-clause-answers : goal.returns-in-Err-clause-answers
returns-in-Err-clause-answers g c =
    let judging = c.args.named.judging.now in
    let form = c.args.named.formats.now in
    let name = c.as_str-name.result.now in
    let source = judging.source in
    let tree = c.in_ok-loaded.loaded.typed.service in
    by_name _ (λ disk asked. IsAnswer kept_by (accepted_file disk asked judging form) (Err c.in-Err.stop)) _ _ c.as_str-name.ensures.text
    (told_next kept_by _ _ (λ disk. service_file (shown_file source disk name) disk name)
    (λ disk. checked_by (shown_file source disk name) disk judging.schema form) tree (Err c.in-Err.stop) c.in_ok-loaded.ensures.told c.in_ok-loaded.ensures.answers
    (told_first _ (λ disk. schema disk judging.schema) (λ disk. checked_with (shown_file source disk name) disk form tree) _ c.in-Err.ensures.answers))

pub seen_as-how-requires : goal.seen_as-how-requires
seen_as-how-requires g c =
    subst (λ t. IfSome c.in_ok-loaded.loaded.told (IsTold t)) (sym c.deref.ensures.value) c.in_ok-loaded.ensures.kept.told_of

pub checked_with-requires-clause-reads : goal.checked_with-requires-clause-reads
checked_with-requires-clause-reads g c = λ κs l.
    let tree = c.in_ok-loaded.loaded.typed.service in
    subst (λ how. IfSome how (λ (shown : Shown). Reads shown.text tree)) (sym c.seen_as-how.ensures)
    (shown_reads (is_some c.in_ok-loaded.loaded.told) c.as_str-name.result.now c.deref.result.now tree
    (subst (λ t. Reads t tree) (sym c.deref.ensures.value) c.in_ok-loaded.ensures.reads))

pub returns-in-Ok-checked_with-clause-answers : goal.returns-in-Ok-checked_with-clause-answers
returns-in-Ok-checked_with-clause-answers g c =
    let judging = c.args.named.judging.now in
    let form = c.args.named.formats.now in
    let name = c.as_str-name.result.now in
    let source = judging.source in
    let tree = c.in_ok-loaded.loaded.typed.service in
    let text = c.in_ok-loaded.loaded.text in
    let r : Result Kept Stop = Ok (record { served = c.in-Ok-checked_with.served; text = text }) in
    by_name _ (λ disk asked. IsAnswer kept_by (accepted_file disk asked judging form) r) _ _ c.as_str-name.ensures.text
    (told_next kept_by _ _ (λ disk. service_file (shown_file source disk name) disk name)
    (λ disk. checked_by (shown_file source disk name) disk judging.schema form) tree r c.in_ok-loaded.ensures.told c.in_ok-loaded.ensures.answers
    (told_next kept_by _ _ (λ disk. schema disk judging.schema) (λ disk. checked_with (shown_file source disk name) disk form tree) c.in-Ok.schema r
    c.in-Ok.ensures.told c.in-Ok.ensures.answers
    (shown_told kept_by source _ _ name text.items _ (λ how disk. checked_with how disk form tree c.in-Ok.schema) r
    (c.in-Ok.ensures.told ∙ c.in_ok-loaded.ensures.told) c.in_ok-loaded.ensures.text
    (c.seen_as-how.ensures ∙ ap (λ s. shown_if s name c.deref.result.now) c.in_ok-loaded.ensures.kept.asked
    ∙ ap (shown_if source name) c.deref.ensures.value) c.in-Ok-checked_with.ensures.answers)))

pub returns-in-Err-checked_with-clause-answers : goal.returns-in-Err-checked_with-clause-answers
returns-in-Err-checked_with-clause-answers g c =
    let judging = c.args.named.judging.now in
    let form = c.args.named.formats.now in
    let name = c.as_str-name.result.now in
    let source = judging.source in
    let tree = c.in_ok-loaded.loaded.typed.service in
    let text = c.in_ok-loaded.loaded.text in
    let r : Result Kept Stop = Err c.in-Err-checked_with.stop in
    by_name _ (λ disk asked. IsAnswer kept_by (accepted_file disk asked judging form) r) _ _ c.as_str-name.ensures.text
    (told_next kept_by _ _ (λ disk. service_file (shown_file source disk name) disk name)
    (λ disk. checked_by (shown_file source disk name) disk judging.schema form) tree r c.in_ok-loaded.ensures.told c.in_ok-loaded.ensures.answers
    (told_next kept_by _ _ (λ disk. schema disk judging.schema) (λ disk. checked_with (shown_file source disk name) disk form tree) c.in-Ok.schema r
    c.in-Ok.ensures.told c.in-Ok.ensures.answers
    (shown_told kept_by source _ _ name text.items _ (λ how disk. checked_with how disk form tree c.in-Ok.schema) r
    (c.in-Ok.ensures.told ∙ c.in_ok-loaded.ensures.told) c.in_ok-loaded.ensures.text
    (c.seen_as-how.ensures ∙ ap (λ s. shown_if s name c.deref.result.now) c.in_ok-loaded.ensures.kept.asked
    ∙ ap (shown_if source name) c.deref.ensures.value) c.in-Err-checked_with.ensures.answers)))

pub returns-in-Ok-checked_with-clause-read_fault : goal.returns-in-Ok-checked_with-clause-read_fault
returns-in-Ok-checked_with-clause-read_fault g c =
    none_shows _ c.in_ok-loaded.loaded c.in-Ok.schema c.in-Ok-checked_with.served _ _ _ _ c.in_ok-loaded.ensures.read_fault c.in-Ok.ensures.read_fault
    c.in-Ok-checked_with.ensures.read_fault

pub returns-in-Ok-checked_with-clause-text : goal.returns-in-Ok-checked_with-clause-text
returns-in-Ok-checked_with-clause-text g c =
    by_name _ (λ disk name. disk name ≡ Some c.in_ok-loaded.loaded.text.items) _ _ c.as_str-name.ensures.text c.in_ok-loaded.ensures.text
