use Rattle.std.proofs.Common.{ap, ◌∙◌}
use Rattle.std.specs.Prelude.{nat_lt}
use Rattle.bw_types.proofs.Seek.{among_by_number}
use Rattle.bw_types.proofs.tables.has.Goals as goal

pub returns : goal.returns
returns c = ap (λ n. nat_lt n c.len.result) c.number.ensures.number ∙ ap (nat_lt _) c.len.ensures ∙ among_by_number c.args.table.now c.args.name.now
