use Rattle.std.proofs.Common.{ℕ, Option, drop}
use Rattle.bw_world.specs.Away.{FirstOutside}
use Rattle.bw_world.proofs.away.first_outside.Given as goal

abbrev pub invariant-loop-received : goal.invariant-loop-received
invariant-loop-received l =
    (o : Option ℕ) → FirstOutside l.formats l.form (drop l.received-index l.receives) o → FirstOutside l.formats l.form l.receives o
