use Rattle.std.proofs.Common.{ap, sym, ◌∙◌, rules, tests}
use Rattle.std.specs.Prelude.{option_map}
use Rattle.std.proofs.lemmas.Iterator.{YieldsList-from_slice}
use Rattle.std.proofs.lemmas.Iterator.Search.{find_from_yields_List}
use Rattle.bw_lang.specs.Table.Names.{same}
use Rattle.bw_eval.specs.declared.values.Variable.{Variable}
use Rattle.bw_eval.proofs.Lookups.{first_named}
use Rattle.bw_eval.proofs.values.Values.get.Goals as goal

pub returns-in_err-variable : goal.returns-in_err-variable
returns-in_err-variable c =
    let w = c.as_str-name.result.now in let xs = c.self.inside.list.items in
    let found = find_from_yields_List (λ x. same w x.name) _ _ c.find.result c.find.ensures.ran (YieldsList-from_slice xs cc)
    (λ x b q k. search (rules, tests)) in
    ap (option_map (λ v. v.now)) c.from_residual.ensures
    ∙ ap (λ o. option_map (λ (x : Variable). x.value) (option_map (λ x. x.now) o)) (sym c.in_err-variable.was)
    ∙ first_named w c.args.name.now xs c.args.self.now _ found c.as_str-name.ensures.text c.self.view_is

pub returns : goal.returns
returns c =
    let w = c.as_str-name.result.now in let xs = c.self.inside.list.items in
    let found = find_from_yields_List (λ x. same w x.name) _ _ c.find.result c.find.ensures.ran (YieldsList-from_slice xs cc)
    (λ x b q k. search (rules, tests)) in
    ap (λ o. option_map (λ (x : Variable). x.value) (option_map (λ x. x.now) o)) (sym c.in_ok-variable.was)
    ∙ first_named w c.args.name.now xs c.args.self.now _ found c.as_str-name.ensures.text c.self.view_is
