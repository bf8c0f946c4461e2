use Rattle.bw_world.proofs.Streams.Runs.{answers_once}
use Rattle.bw_world.proofs.laws.one_answer.Goals as goal

pub returns : goal.returns
returns c = answers_once
