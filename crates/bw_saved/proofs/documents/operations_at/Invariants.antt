use Rattle.std.proofs.Common.{◌≡◌, ◌-◌, []}
use Rattle.bw_saved.specs.Documents.Reading.{operations_at}
use Rattle.bw_saved.proofs.documents.operations_at.Given as goal

abbrev pub invariant-loop : goal.invariant-loop
invariant-loop l = operations_at l.typed.service (l.count - l.counter) l.stack l.rest ≡ operations_at l.typed.service l.count [] l.bytes
