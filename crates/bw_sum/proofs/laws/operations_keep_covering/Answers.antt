use Rattle.bw_sum.proofs.Kept.{constant_covers, plug_covers, plug_text_covers, below_covers}
use Rattle.bw_sum.proofs.laws.operations_keep_covering.Goals as goal

pub returns : goal.returns
returns c = record { constant = constant_covers; plug = plug_covers; plug_text = plug_text_covers; below = below_covers }
