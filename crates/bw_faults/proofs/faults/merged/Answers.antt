use Rattle.std.proofs.Common.{rules, [], ◌∷◌, ◌++◌, sym, ap, ◌∙◌, append_assoc, append-nil}
use Rattle.std.specs.Option.{option_to_list}
use Rattle.bw_solve.specs.Sets.{merge}
use Rattle.bw_faults.specs.Order.{fault_cmp}
use Rattle.bw_faults.proofs.faults.merged.Goals as goal

pub loop-fault-init : goal.loop-fault-init
loop-fault-init c = search rules

pub loop-fault-smaller : goal.loop-fault-smaller
loop-fault-smaller c = search rules

pub loop-fault-preserved : goal.loop-fault-preserved
loop-fault-preserved c =
    let left = merge fault_cmp c.least.new.mine.items c.least.new.others.items in
    ap (λ l. l ++ left) c.in_ok-push.ensures.items ∙ append_assoc c.loop-fault.all.items (c.in-Some.fault ∷ []) left
    ∙ ap (λ l. c.loop-fault.all.items ++ l) (sym (ap (λ o. option_to_list o ++ left) c.in-Some.is) ∙ c.least.ensures.first) ∙ c.loop-fault.invariant

pub returns : goal.returns
returns c =
    let none = sym c.in_default.ensures.first ∙ c.least.ensures.none c.in_default.is in
    sym (append-nil c.loop-fault.all.items) ∙ ap (λ l. c.loop-fault.all.items ++ l) (sym none) ∙ c.loop-fault.invariant
