use Rattle.bw_agent.proofs.Counted.{controls_are_fields, single_is_sent, choice_is_sent}
use Rattle.bw_agent.proofs.laws.fields_are_sent.Goals as goal

pub returns : goal.returns
returns c = record { controls = controls_are_fields; single = single_is_sent; choice = choice_is_sent }
