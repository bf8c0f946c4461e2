use Rattle.std.proofs.Common.{sym, subst, ap, ◌∙◌}
use Rattle.bw_solve.specs.Sets.{IsSet, has}
use Rattle.bw_solve.proofs.Search.{found}
use Rattle.bw_faults.specs.Order.{fault_cmp, fault_total}
use Rattle.bw_faults.proofs.faults.Faults.has.Goals as goal

pub returns : goal.returns
returns c =
    let e = c.deref.ensures.value in
    c.is_ok.ensures.value
    ∙ found fault_cmp fault_total c.deref.result.now c.args.fault.now (subst (IsSet fault_cmp) (sym e) c.self.invariant) c.binary_search.result
    c.binary_search.ensures.bound c.binary_search.ensures.position
    ∙ ap (λ xs. has fault_cmp xs c.args.fault.now) (e ∙ c.self.view_is)
