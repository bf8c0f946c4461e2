use Rattle.bw_syntax.proofs.OneAnswer.{reads_once, read_or_refused, one_reason_each}
use Rattle.bw_syntax.proofs.laws.one_answer.Goals as goal

pub returns : goal.returns
returns c = record { once = reads_once; not_both = read_or_refused; reason = one_reason_each }
