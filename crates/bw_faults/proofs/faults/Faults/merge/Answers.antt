use Rattle.std.proofs.Common.{sym, ap, ◌∙◌, subst}
use Rattle.bw_solve.specs.Sets.{IsSet, merge}
use Rattle.bw_solve.specs.Lawful.SetLaws.{merge_set}
use Rattle.bw_faults.specs.Order.{fault_cmp, fault_total}
use Rattle.bw_faults.proofs.faults.Faults.merge.Goals as goal

pub invariant_of-self-2 : goal.invariant_of-self-2
invariant_of-self-2 c =
    subst (IsSet fault_cmp) (sym (c.in_ok-self-inside.ensures ∙ ap (λ v. merge fault_cmp v.items c.other.inside.list.items) c.replace-mine.ensures.value))
    (merge_set fault_total c.self.inside.list.items c.other.inside.list.items c.self.invariant c.other.invariant)
