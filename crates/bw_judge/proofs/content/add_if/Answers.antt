use Rattle.std.proofs.Common.{subst}
use Rattle.bw_faults.specs.Lists.{Adds}
use Rattle.bw_faults.specs.Lists.{When}
use Rattle.bw_faults.proofs.Adding.{adds_when}
use Rattle.bw_judge.proofs.content.add_if.Goals as goal

pub returns : goal.returns
returns c =
    let f = c.in_ok-fault.fault in
    subst (λ x. Adds (When c.args.is_fault x) c.args.faults.now c.add.new.self) c.in_ok-fault.ensures
    (adds_when c.args.is_fault f c.args.faults.now c.add.new.self c.if-not-is_fault.false c.in_ok-add.ensures.ok)
