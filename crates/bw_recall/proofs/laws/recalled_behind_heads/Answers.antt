use Rattle.bw_recall.proofs.Begun.{recalled_from}
use Rattle.bw_recall.proofs.laws.recalled_behind_heads.Goals as goal

pub returns : goal.returns
returns c = recalled_from
