use Rattle.std.proofs.Common.{◌∙◌, subst}
use Rattle.bw_faults.specs.Lists.{Adds, When}
use Rattle.bw_faults.proofs.Adding.{adds_when}
use Rattle.bw_fields.specs.Found.{fault_of}
use Rattle.bw_fields.proofs.judging.add_if.Goals as goal

pub returns : goal.returns
returns c =
    subst (λ n. Adds (When c.args.is_fault (fault_of c.args.number c.args.point n)) c.args.faults.now c.add.new.self)
    (c.in_ok-of.ensures ∙ c.as_str.ensures.text)
    (adds_when c.args.is_fault (fault_of c.args.number c.args.point c.in_ok-of.field-0) c.args.faults.now c.add.new.self c.if-not-is_fault.false
    c.in_ok-add.ensures.ok)
