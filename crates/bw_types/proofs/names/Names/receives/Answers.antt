use Rattle.std.proofs.Common.{refl, flat_map}
use Rattle.bw_types.specs.Faults.{receive_fault}
use Rattle.bw_types.proofs.First.{exits, passed, at_element}
use Rattle.bw_types.proofs.names.Names.receives.Goals as goal

pub returns-in_err-receive-clause-first : goal.returns-in_err-receive-clause-first
returns-in_err-receive-clause-first c =
    let f = receive_fault c.args.self.now.service.now c.args.locals.now in let x = c.receive-item.result in
    exits c.from_residual.result c.in_err-receive.field-0.0 (f x) _ _ c.from_residual.ensures.1 c.in_err-receive.ensures.first
    (at_element (flat_map f) f (λ y ys. refl) _ _ x _ c.loop-receive.invariant c.receive-item.is c.loop-receive-test.true)

pub loop-receive-preserved : goal.loop-receive-preserved
loop-receive-preserved c =
    let f = receive_fault c.args.self.now.service.now c.args.locals.now in let x = c.receive-item.result in
    passed _ (f x) _ (at_element (flat_map f) f (λ y ys.
    refl) _ _ x _ c.loop-receive.invariant c.receive-item.is c.loop-receive-test.true) c.in_ok-receive.ensures.none
