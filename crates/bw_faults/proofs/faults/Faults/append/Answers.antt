use Rattle.std.proofs.Common.{rules, [], ◌∷◌, ◌++◌, sym, ap, ◌∙◌, subst, append_assoc}
use Rattle.bw_solve.specs.Sets.{IsSet, merge}
use Rattle.bw_faults.specs.Order.{fault_cmp, fault_total}
use Rattle.bw_faults.proofs.Lists.{joined_more, merge_nothing}
use Rattle.bw_faults.proofs.faults.Faults.append.Goals as goal

pub loop-fault-init : goal.loop-fault-init
loop-fault-init c = record { joined = sym (merge_nothing fault_total c.args.self.now); parts = search rules }

pub loop-fault-preserved : goal.loop-fault-preserved
loop-fault-preserved c =
    let parts = c.loop-fault.invariant.parts ∙ ap (λ l. c.loop-fault.yielded ++ l) c.in-Some.ensures.steps.0 in
    record {
      joined =
          c.in_ok-add.ensures.ok ∙ ap (λ xs. merge fault_cmp xs (c.in-Some.fault ∷ [])) c.loop-fault.invariant.joined
          ∙ joined_more c.args.self.now c.loop-fault.yielded c.in-Some.fault c.next.new.self.rest.items c.as_slice-mine.ensures.set
          (subst (IsSet fault_cmp) parts c.as_slice-others.ensures.set);
      parts = parts ∙ sym (append_assoc c.loop-fault.yielded (c.in-Some.fault ∷ []) c.next.new.self.rest.items);
    }
