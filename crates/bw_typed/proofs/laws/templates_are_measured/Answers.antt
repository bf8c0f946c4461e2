use Rattle.bw_typed.proofs.Services.{templates_are_measured}
use Rattle.bw_typed.proofs.laws.templates_are_measured.Goals as goal

pub returns : goal.returns
returns c = templates_are_measured
