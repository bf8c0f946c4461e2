use Rattle.std.proofs.Common.{ap, ◌∙◌, sym}
use Rattle.bw_types.specs.Faults.{ends_in_exit}
use Rattle.bw_types.proofs.Codes.{last_decides, none_ends}
use Rattle.bw_types.proofs.statements.ends_in_exit.Goals as goal

pub returns-in-Some : goal.returns-in-Some
returns-in-Some c = c.is_exit.ensures ∙ sym (last_decides c.as_slice.result.now _ (sym c.in-Some.ensures.value)) ∙ ap ends_in_exit c.as_slice.ensures

pub returns-in-None : goal.returns-in-None
returns-in-None c = sym (none_ends c.as_slice.result.now (sym c.in-None.ensures.value)) ∙ ap ends_in_exit c.as_slice.ensures
