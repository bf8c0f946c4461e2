use Rattle.std.proofs.Common.{ap, sym, ◌∙◌, subst}
use Rattle.std.specs.Prelude.{Ok, option_map}
use Rattle.bw_eval.specs.Sound.{IsSound}
use Rattle.bw_eval.specs.View.{value}
use Rattle.bw_eval.proofs.Lookups.{beside_sound}
use Rattle.bw_eval.proofs.Templates.{local_named, shared_named, template_named}
use Rattle.bw_eval.proofs.eval.Scene.named.Goals as goal

pub returns-in-Some-clause-value : goal.returns-in-Some-clause-value
returns-in-Some-clause-value c m =
    let s = c.args.self.now in
    ap Ok (ap value c.in_ok-copy.ensures
    ∙ local_named s.typed.now.service s.locals.now s.shared.now c.args.name.now _ (sym c.get.ensures ∙ ap (option_map (λ v. v.now)) c.in-Some.is))

pub returns-in-Some-clause-sound : goal.returns-in-Some-clause-sound
returns-in-Some-clause-sound c =
    let s = c.args.self.now in let ts = s.typed.now.service.templates in
    subst (IsSound ts) (sym c.in_ok-copy.ensures) (beside_sound ts c.args.name.now s.locals.now _ c.requires.locals (sym c.get.ensures
    ∙ ap (option_map (λ v. v.now)) c.in-Some.is))

pub returns-in-Some-get-clause-value : goal.returns-in-Some-get-clause-value
returns-in-Some-get-clause-value c m =
    let s = c.args.self.now in
    ap Ok (ap value c.in_ok-copy-2.ensures
    ∙ shared_named s.typed.now.service s.locals.now s.shared.now c.args.name.now _ (sym c.get.ensures ∙ ap (option_map (λ v. v.now)) c.in_default.is)
    (sym c.get-2.ensures ∙ ap (option_map (λ v. v.now)) c.in-Some-get.is))

pub returns-in-Some-get-clause-sound : goal.returns-in-Some-get-clause-sound
returns-in-Some-get-clause-sound c =
    let s = c.args.self.now in let ts = s.typed.now.service.templates in
    subst (IsSound ts) (sym c.in_ok-copy-2.ensures) (beside_sound ts c.args.name.now s.shared.now _ c.requires.shared (sym c.get-2.ensures
    ∙ ap (option_map (λ v. v.now)) c.in-Some-get.is))

pub returns-clause-value : goal.returns-clause-value
returns-clause-value c m =
    let s = c.args.self.now in
    c.template.ensures.value m
    ∙ ap Ok (template_named s.typed.now.service s.locals.now s.shared.now c.args.name.now (sym c.get.ensures ∙ ap (option_map (λ v. v.now)) c.in_default.is)
    (sym c.get-2.ensures ∙ ap (option_map (λ v. v.now)) c.in_default-get.is))
