use Rattle.bw_lang.proofs.Small.{readable_is_woven}
use Rattle.bw_types.proofs.WellTyped.{typed, well_typed}
use Rattle.bw_types.proofs.laws.well_typed.Goals as goal

pub returns-clause-typed : goal.returns-clause-typed
returns-clause-typed c = λ s r. typed s (readable_is_woven s r)

pub returns-clause-back : goal.returns-clause-back
returns-clause-back c = λ s r. well_typed s (readable_is_woven s r)
