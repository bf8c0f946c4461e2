use Rattle.std.proofs.Common.{ap, sym, ◌∙◌, rules, tests}
use Rattle.std.specs.Prelude.{option_map}
use Rattle.std.proofs.lemmas.Iterator.Adapters.{YieldsList-from_rev_slice}
use Rattle.std.proofs.lemmas.Iterator.Search.{find_from_yields_List}
use Rattle.bw_lang.specs.Table.Names.{same}
use Rattle.bw_types.specs.declared.locals.Local.{Local}
use Rattle.bw_types.specs.Scopes.{Scope}
use Rattle.bw_types.proofs.LocalLaws.{newest}
use Rattle.bw_types.proofs.locals.Locals.kind.Goals as goal

pub returns-in_err-local : goal.returns-in_err-local
returns-in_err-local c =
    let w = c.args.name.now in let xs = c.self.inside.in_scope.items in
    let found = find_from_yields_List (λ x. same w x.name) _ _ c.find.result c.find.ensures.ran (YieldsList-from_rev_slice xs cc)
    (λ x b q k. search (rules, tests)) in
    c.from_residual.ensures ∙ ap (λ o. option_map (λ (x : Local). x.kind) (option_map (λ x. x.now) o)) (sym c.in_err-local.was)
    ∙ newest w xs c.args.self.now _ found (ap (λ (s : Scope). s.locals) c.self.view_is)

pub returns : goal.returns
returns c =
    let w = c.args.name.now in let xs = c.self.inside.in_scope.items in
    let found = find_from_yields_List (λ x. same w x.name) _ _ c.find.result c.find.ensures.ran (YieldsList-from_rev_slice xs cc)
    (λ x b q k. search (rules, tests)) in
    ap (λ o. option_map (λ (x : Local). x.kind) (option_map (λ x. x.now) o)) (sym c.in_ok-local.was)
    ∙ newest w xs c.args.self.now _ found (ap (λ (s : Scope). s.locals) c.self.view_is)
