use Rattle.bw_lex.proofs.Cutting.{cut_once, read_exactly}
use Rattle.bw_lex.proofs.Refusing.{refused_exactly, read_or_refused}
use Rattle.bw_lex.proofs.laws.reads_exactly.Goals as goal

pub returns : goal.returns
returns c = record { once = cut_once; tokens = read_exactly; faults = refused_exactly; either = read_or_refused }
