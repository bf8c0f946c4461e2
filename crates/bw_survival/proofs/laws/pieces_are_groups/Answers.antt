use Rattle.bw_survival.proofs.Parting.{kept_in_parts, pieces_are_groups}
use Rattle.bw_survival.proofs.laws.pieces_are_groups.Goals as goal

pub returns : goal.returns
returns c = record { groups = pieces_are_groups; parts = kept_in_parts }
