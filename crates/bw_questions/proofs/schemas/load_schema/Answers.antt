use Rattle.bw_schema.specs.declared.schema.Schema.{Schema}
use Rattle.bw_questions.proofs.Pages.{named_schema, unnamed_schema}
use Rattle.bw_questions.proofs.schemas.load_schema.Goals as goal

pub returns-in-Some-clause-answers : goal.returns-in-Some-clause-answers
returns-in-Some-clause-answers g c = named_schema (λ (x : Schema). x) _ _ c.in-Some.name _ _ c.in-Some.is c.as_str.ensures.text c.load_rules.ensures.answers

pub returns-in-None-clause-answers : goal.returns-in-None-clause-answers
returns-in-None-clause-answers g c = unnamed_schema (λ (x : Schema). x) _ _ c.default_schema.result c.in-None.is c.default_schema.ensures.answers
