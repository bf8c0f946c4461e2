use Rattle.bw_read.proofs.Joining.{joins_once, joins_no_field, joins_no_element}
use Rattle.bw_read.proofs.laws.joining_keeps.Goals as goal

pub returns : goal.returns
returns c = record { once = joins_once; fields = joins_no_field; elements = joins_no_element }
