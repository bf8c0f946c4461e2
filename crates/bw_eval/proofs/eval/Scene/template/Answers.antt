use Rattle.std.proofs.Common.{ap, sym, ◌∙◌}
use Rattle.std.specs.Prelude.{Ok, pos}
use Rattle.bw_meaning.specs.Values.{number}
use Rattle.bw_types.specs.Scopes.{template_of}
use Rattle.bw_eval.proofs.Templates.{template_is, no_template}
use Rattle.bw_eval.proofs.eval.Scene.template.Goals as goal

pub returns-in_ok-constant-in-Some-clause-value : goal.returns-in_ok-constant-in-Some-clause-value
returns-in_ok-constant-in-Some-clause-value c m =
    let service = c.args.self.now.typed.now.service in
    ap Ok (template_is service c.args.name.now c.in-Some.template c.in_ok-constant-in-Some.field-0 (number (pos 0))
    (ap (template_of service) (sym c.as_str.ensures.text) ∙ sym c.template.ensures ∙ c.in-Some.is) c.in_ok-constant-in-Some.ensures.constant)

pub returns-in-None-clause-value : goal.returns-in-None-clause-value
returns-in-None-clause-value c m =
    let service = c.args.self.now.typed.now.service in
    ap Ok (no_template service c.args.name.now (number (pos 0)) (ap (template_of service) (sym c.as_str.ensures.text) ∙ sym c.template.ensures
    ∙ c.in-None.is))
