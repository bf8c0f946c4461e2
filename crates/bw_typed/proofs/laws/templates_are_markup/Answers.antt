use Rattle.bw_typed.proofs.Services.{templates_are_markup}
use Rattle.bw_typed.proofs.laws.templates_are_markup.Goals as goal

pub returns : goal.returns
returns c = templates_are_markup
