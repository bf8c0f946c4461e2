use Rattle.bw_read.proofs.Back.{reads_back, shown_reads_back, last_reads_back}
use Rattle.bw_read.proofs.laws.read_back.Goals as goal

pub returns : goal.returns
returns c = record { page = reads_back; shown = shown_reads_back; last = last_reads_back }
