use Rattle.std.proofs.Common.{◌∙◌, ap, codes}
use Rattle.std.proofs.lemmas.Result.{IfOk-weaker}
use Rattle.clap.specs.Words.{App, with_rule, new_rule}
use Rattle.bw_command.specs.Words.{bigwig, option_rule, flag_rule}
use Rattle.bw_command.proofs.words.whole.Goals as goal

pub returns : goal.returns
unfolding bigwig
returns c =
    let e1 = c.in_ok-c.ensures ∙ ap (λ (a : App). with_rule a (new_rule (codes "command"))) c.bare.ensures in
    let e2 = c.in_ok-c-2.ensures ∙ ap (λ (a : App). with_rule a (new_rule (codes "first"))) e1 in
    let e3 = c.in_ok-c-3.ensures ∙ ap (λ (a : App). with_rule a (new_rule (codes "second"))) e2 in
    let e4 = c.in_ok-c-4.ensures ∙ ap (λ (a : App). with_rule a (option_rule (codes "schema"))) e3 in
    let e5 = c.in_ok-c-5.ensures ∙ ap (λ (a : App). with_rule a (option_rule (codes "workers"))) e4 in
    let e6 = c.in_ok-c-6.ensures ∙ ap (λ (a : App). with_rule a (option_rule (codes "limit"))) e5 in
    let e7 = c.in_ok-c-7.ensures ∙ ap (λ (a : App). with_rule a (option_rule (codes "port"))) e6 in
    let e8 = c.in_ok-c-8.ensures ∙ ap (λ (a : App). with_rule a (option_rule (codes "formats"))) e7 in
    let e9 = c.in_ok-c-9.ensures ∙ ap (λ (a : App). with_rule a (option_rule (codes "journal"))) e8 in
    let e10 = c.in_ok-c-10.ensures ∙ ap (λ (a : App). with_rule a (option_rule (codes "load"))) e9 in
    let e11 = c.in_ok-c-11.ensures ∙ ap (λ (a : App). with_rule a (option_rule (codes "rotate"))) e10 in
    let e12 = c.in_ok-c-12.ensures ∙ ap (λ (a : App). with_rule a (flag_rule (codes "show-source"))) e11 in
    IfOk-weaker c.with_flag-2.result _ _ (λ r h. h ∙ ap (λ (a : App). with_rule a (flag_rule (codes "explain"))) e12) c.with_flag-2.ensures
