use Rattle.std.proofs.Common.{sym}
use Rattle.bw_questions.specs.Asked.{lights}
use Rattle.bigwig.specs.Asked.{work}
use Rattle.bw_questions.specs.Asked.Work.{prints}
use Rattle.bw_questions.specs.Questions.{IsStop}
use Rattle.bw_command.specs.declared.command.Command.TheVariants.{Light}
use Rattle.bw_questions.proofs.Answering.{by_name}
use Rattle.bigwig.proofs.Endings.{stopped_speaks, text_speaks}
use Rattle.bigwig.proofs.saying.light_command.Goals as goal

pub returns-in-Ok-clause-comes : goal.returns-in-Ok-clause-comes
returns-in-Ok-clause-comes g c =
    let form = c.as_str.result.now in
    let texts = c.as_str-2.result.now in
    let printed = c.as_bytes.result.now in
    text_speaks _ (λ disk. work disk (Light c.args.formats.now c.args.texts.now)) printed _ _ _
    (by_name _ (λ disk name. (lights disk name c.args.texts.now).gives (prints printed)) _ _ c.as_str.ensures.text
    (by_name _ (λ disk name. (lights disk form name).gives (prints printed)) _ _ c.as_str-2.ensures.text
    (by_name _ (λ disk text. (lights disk form texts).gives (prints text)) printed _ (sym c.as_bytes.ensures.value) c.in-Ok.ensures.answers)))
    c.print_text.ensures.prints

pub returns-in-Err-clause-comes : goal.returns-in-Err-clause-comes
returns-in-Err-clause-comes g c =
    stopped_speaks _ (λ disk. work disk (Light c.args.formats.now c.args.texts.now)) c.in-Err.stop _ _ _
    (by_name _ (λ disk name. IsStop (lights disk name c.args.texts.now) c.in-Err.stop) _ _ c.as_str.ensures.text
    (by_name _ (λ disk name. IsStop (lights disk c.as_str.result.now name) c.in-Err.stop) _ _ c.as_str-2.ensures.text c.in-Err.ensures.answers))
    c.report.ensures.reported
