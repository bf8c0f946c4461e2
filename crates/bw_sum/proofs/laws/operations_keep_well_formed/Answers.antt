use Rattle.bw_sum.proofs.Ranks.{rank_is_bounded}
use Rattle.bw_sum.proofs.WellFormed.{well_formed_alike, constant_well_formed, join_well_formed, plug_well_formed, plug_text_well_formed}
use Rattle.bw_sum.proofs.laws.operations_keep_well_formed.Goals as goal

pub returns : goal.returns
returns c = record {
  alike = well_formed_alike;
  constant = constant_well_formed;
  join = join_well_formed;
  plug = plug_well_formed;
  plug_text = plug_text_well_formed;
  bound = rank_is_bounded;
}
