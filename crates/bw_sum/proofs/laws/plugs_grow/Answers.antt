use Rattle.bw_sum.proofs.Growing.{plug_grows, text_grows}
use Rattle.bw_sum.proofs.laws.plugs_grow.Goals as goal

pub returns : goal.returns
returns c = record { plug = plug_grows; plug_text = text_grows }
