use Rattle.bw_sum.proofs.ConstantLaws.{constants}
use Rattle.bw_sum.proofs.GraphLaws.{joins, plugs, plugs_text}
use Rattle.bw_sum.proofs.Growing.{below_by_members}
use Rattle.bw_sum.proofs.laws.operations_by_members.Goals as goal

pub returns : goal.returns
returns c = record { constant = constants; join = joins; plug = plugs; plug_text = plugs_text; below = below_by_members }
