use Rattle.bigwig.proofs.Followed.{unknown_told}
use Rattle.bigwig.proofs.visiting.tell_end.Goals as goal

pub returns-in-Unknown-clause-tells : goal.returns-in-Unknown-clause-tells
returns-in-Unknown-clause-tells g c = rw c.in-Unknown.is (unknown_told c.in-Unknown.name c.unknown_answer.result _ _ _ c.unknown_answer.ensures.says c.report.ensures.reported)
