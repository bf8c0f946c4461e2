use Rattle.bw_lang.proofs.Small.{readable_is_woven, readable_is_small}
use Rattle.bw_lang.proofs.laws.readable_is_small.Goals as goal

pub returns-clause-woven : goal.returns-clause-woven
returns-clause-woven c = readable_is_woven

pub returns-clause-small : goal.returns-clause-small
returns-clause-small c = readable_is_small
