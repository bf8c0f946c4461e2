use Rattle.std.proofs.Common.{arith, rules}
use Rattle.std.proofs.lemmas.Grind.{common_steps}
use Rattle.bw_flow.specs.Steps.{goes_over}
use Rattle.bw_lang.specs.Service.TermView.{term}
use Rattle.bw_run.proofs.Tidy.{sound_rules}
use Rattle.bw_run.proofs.step.Here.each.Goals as goal

pub returns-then-len-self : goal.returns-then-len-self
returns-then-len-self g c = record {
  does_so = search rules;
  steps = omega arith;
  left = omega arith;
  paid = grind (arith, common_steps);
  stops = c.go_over.ensures.stops c.args.self.now.typed.now.service.templates (goes_over c.args.name.now (term c.args.expr.now));
  sound = grind (arith, common_steps, sound_rules);
}

pub returns : goal.returns
returns g c =
    let ts = c.args.self.now.typed.now.service.templates in
    let h = c.own_rest-strings.ensures.sound ts c.requires.sound in
    record {
      does_so = search rules;
      steps = omega arith;
      left = omega arith;
      paid = grind (arith, common_steps);
      stops = c.go_over-2.ensures.stops ts (goes_over c.args.name.now (term c.args.expr.now));
      sound = c.go_over-2.ensures.sound ts h.0 h.1;
    }
