use Rattle.std.proofs.Common.{refl}
use Rattle.bw_schema.specs.declared.schema.Schema.{Schema}
use Rattle.bw_questions.specs.Asked.{file, rules}
use Rattle.bw_questions.proofs.Answering.{told_first}
use Rattle.bw_questions.proofs.Files.{front_answers}
use Rattle.bw_questions.proofs.Pages.{rules_all}
use Rattle.bw_questions.proofs.schemas.load_rules.Goals as goal

pub returns-in-Ok-clause-answers : goal.returns-in-Ok-clause-answers
returns-in-Ok-clause-answers g c =
    front_answers (λ (x : Schema). x) _ rules c.args.name.now _ _ 1048577 c.rules_of.result
    (λ content a. rules_all
    (λ (x : Schema). x) 1048577 content c.rules_of.result refl a) c.in-Ok.ensures.found c.deref.ensures.value c.rules_of.ensures.answers

pub returns-in-Err-clause-answers : goal.returns-in-Err-clause-answers
returns-in-Err-clause-answers g c = told_first _ (λ disk. file disk c.args.name.now) (λ disk. rules) c.in-Err.stop c.in-Err.ensures.stops
