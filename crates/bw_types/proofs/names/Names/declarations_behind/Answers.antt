use Rattle.std.proofs.Common.{◌+◌, ap, drop, map, sym, ◌∙◌}
use Rattle.bw_lang.specs.Service.Order.{seen}
use Rattle.bw_types.specs.Faults.{own_faults, faults_behind}
use Rattle.bw_types.proofs.First.{exits, passed}
use Rattle.bw_types.proofs.Walks.{repeated, declared_here}
use Rattle.bw_types.proofs.names.Names.declarations_behind.Goals as goal

pub returns-in_err-take_name-clause-first : goal.returns-in_err-take_name-clause-first
returns-in_err-take_name-clause-first c =
    let s = c.args.self.now.service.now in let E = c.loop-declaration.earlier in let d = c.declaration-item.result in let n = c.name.result.now in
    exits c.from_residual.result c.in_err-take_name.field-0.0 (repeated E n) _ _ c.from_residual.ensures.1 c.in_err-take_name.ensures.first
    (declared_here s E _ _ d n _ c.loop-declaration.invariant c.name.ensures c.declaration-item.is c.loop-declaration-test.true)

pub returns-in_err-declaration-clause-first : goal.returns-in_err-declaration-clause-first
returns-in_err-declaration-clause-first c =
    let s = c.args.self.now.service.now in let E = c.loop-declaration.earlier in let d = c.declaration-item.result in let n = c.name.result.now in
    exits c.from_residual-in_err-declaration.result c.in_err-declaration.field-0.0
    (own_faults s (seen d)) _ _ c.from_residual-in_err-declaration.ensures.1 c.in_err-declaration.ensures.first
    (passed _ (repeated E n) _
    (declared_here s E _ _ d n _ c.loop-declaration.invariant c.name.ensures c.declaration-item.is c.loop-declaration-test.true) c.in_ok-take_name.ensures.none)

pub loop-declaration-preserved : goal.loop-declaration-preserved
loop-declaration-preserved c =
    let s = c.args.self.now.service.now in let E = c.loop-declaration.earlier in let d = c.declaration-item.result in let n = c.name.result.now in
    let rest = map seen (drop (c.loop-declaration.declaration-index + 1) c.args.declarations.now) in
    passed _ (own_faults s (seen d)) _
    (passed _ (repeated E n) _
    (declared_here s E _ _ d n _ c.loop-declaration.invariant c.name.ensures c.declaration-item.is c.loop-declaration-test.true) c.in_ok-take_name.ensures.none)
    c.in_ok-declaration.ensures.none
    ∙ ap (λ e. faults_behind s e rest) (sym c.in_ok-take_name.ensures.named)
