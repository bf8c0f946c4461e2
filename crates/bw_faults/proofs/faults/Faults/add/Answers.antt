use Rattle.std.proofs.Common.{◌∙◌, [], ◌∷◌, sym, ap}
use Rattle.bw_solve.specs.Sets.{merge}
use Rattle.bw_solve.specs.Lawful.SetLaws.{merge_set}
use Rattle.bw_faults.specs.Order.{fault_cmp, fault_total}
use Rattle.bw_faults.proofs.Lists.{inserted, was_there}
use Rattle.bw_faults.proofs.faults.Faults.add.Goals as goal

pub invariant_of-self-in-Err : goal.invariant_of-self-in-Err
invariant_of-self-in-Err c =
    let e = c.deref.ensures.value in
    let is =
    inserted fault_total c.self.inside.list.items c.args.fault c.in-Err.place c.self.invariant (rw e at c.in-Err.ensures.bound)
    (rw e at c.in-Err.ensures.position) in
    rw (c.in_ok-insert-in-Err.ensures.items, is) (merge_set fault_total c.self.inside.list.items (c.args.fault ∷ []) c.self.invariant (tt, tt))

pub returns-in-Ok-clause-ok : goal.returns-in-Ok-clause-ok
returns-in-Ok-clause-ok c =
    let e = c.deref.ensures.value ∙ c.self.view_is in
    sym (was_there fault_total c.args.self.now c.args.fault c.in-Ok.field-0 (rw c.self.view_is at c.self.invariant) (rw e at c.in-Ok.ensures.bound)
    (rw e at c.in-Ok.ensures.position))

pub returns-in_ok-insert-in-Err-clause-ok : goal.returns-in_ok-insert-in-Err-clause-ok
returns-in_ok-insert-in-Err-clause-ok c =
    let e = c.deref.ensures.value in
    let is =
    inserted fault_total c.self.inside.list.items c.args.fault c.in-Err.place c.self.invariant (rw e at c.in-Err.ensures.bound)
    (rw e at c.in-Err.ensures.position) in
    c.in_ok-insert-in-Err.ensures.items ∙ is ∙ ap (λ xs. merge fault_cmp xs (c.args.fault ∷ [])) c.self.view_is
