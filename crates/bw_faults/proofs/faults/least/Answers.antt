use Rattle.std.proofs.Common.{◌++◌, sym, ap, ◌∙◌}
use Rattle.std.specs.Option.{option_to_list}
use Rattle.bw_solve.specs.Sets.{merge}
use Rattle.bw_faults.specs.Order.{fault_cmp, fault_total}
use Rattle.bw_faults.proofs.Lists.{merge_nothing, no_front}
use Rattle.bw_faults.proofs.faults.least.Goals as goal

pub returns-in-Some-None-clause-first : goal.returns-in-Some-None-clause-first
returns-in-Some-None-clause-first c =
    let none = no_front c.args.others.now.items c.in-Some-None.ensures'.item in
    let mine = c.args.mine.now.items in
    let left = c.pop_front-in-Some-None.new.self.items in
    let taken = option_to_list c.pop_front-in-Some-None.result in
    ap (λ l. taken ++ merge fault_cmp left l) none ∙ ap (λ l. taken ++ l) (merge_nothing fault_total left)
    ∙ sym c.pop_front-in-Some-None.ensures.items ∙ sym (ap (merge fault_cmp mine) none ∙ merge_nothing fault_total mine)
