use Rattle.std.proofs.Common.{ap, sym, ◌∙◌}
use Rattle.bw_types.specs.Scopes.{template_of}
use Rattle.bw_run.proofs.Beginnings.{template_ok}
use Rattle.bw_run.proofs.firsts.template_value.Goals as goal

pub returns-clause-value : goal.returns-clause-value
returns-clause-value c =
    let service = c.args.typed.now.service in
    template_ok service c.args.name.now c.in-Some.template c.constant.result
    (ap (template_of service) (sym c.as_str.ensures.text) ∙ sym c.template.ensures ∙ c.in-Some.is) c.constant.ensures.constant
