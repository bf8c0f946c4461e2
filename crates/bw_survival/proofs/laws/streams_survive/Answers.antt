use Rattle.bw_survival.proofs.StreamsSurvive.{kept_first_in_parts, streams_survive}
use Rattle.bw_survival.proofs.laws.streams_survive.Goals as goal

pub returns : goal.returns
returns c = record { parts = kept_first_in_parts; survive = streams_survive }
