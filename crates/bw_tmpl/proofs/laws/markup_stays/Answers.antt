use Rattle.bw_tmpl.proofs.Keeping.{plug_markup, plug_text_markup, close_markup}
use Rattle.bw_tmpl.proofs.Made.{reads_markup}
use Rattle.bw_tmpl.proofs.laws.markup_stays.Goals as goal

pub returns : goal.returns
returns c = record { reads = reads_markup; plug = plug_markup; plug_text = plug_text_markup; close = close_markup }
