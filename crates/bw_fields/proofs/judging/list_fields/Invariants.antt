use Rattle.std.proofs.Common.{take}
use Rattle.bw_faults.specs.Lists.{Adds, OfSome}
use Rattle.bw_fields.specs.Found.{OfField}
use Rattle.bw_fields.proofs.judging.list_fields.Given as goal

abbrev pub invariant-loop-field : goal.invariant-loop-field
invariant-loop-field l = Adds (OfSome (OfField l.typed.service l.outline l.root l.point) (take l.field-index l.received)) l.initial.faults l.faults
