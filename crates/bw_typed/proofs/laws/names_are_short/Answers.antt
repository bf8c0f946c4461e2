use Rattle.bw_typed.proofs.ShortFields.{fields_are_short}
use Rattle.bw_typed.proofs.ShortReadable.{readable_has_short_names}
use Rattle.bw_typed.proofs.laws.names_are_short.Goals as goal

pub returns-clause-names : goal.returns-clause-names
returns-clause-names c = readable_has_short_names

pub returns-clause-fields : goal.returns-clause-fields
returns-clause-fields c = fields_are_short
