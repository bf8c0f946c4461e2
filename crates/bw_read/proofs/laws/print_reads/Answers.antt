use Rattle.bw_read.proofs.Back.{made_is_markup, made_shown_reads_back, made_last_reads_back}
use Rattle.bw_read.proofs.laws.print_reads.Goals as goal

pub returns : goal.returns
returns c = record { markup = made_is_markup; shown = made_shown_reads_back; last = made_last_reads_back }
