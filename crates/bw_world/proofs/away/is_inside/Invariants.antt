use Rattle.std.proofs.Common.{◌↔◌, drop}
use Rattle.bw_model.specs.Guards.{IsInside}
use Rattle.bw_world.proofs.away.is_inside.Given as goal

abbrev pub invariant-loop-name : goal.invariant-loop-name
invariant-loop-name l = IsInside l.formats (drop l.name-index l.name-items) l.field ↔ IsInside l.formats l.name-items l.field
