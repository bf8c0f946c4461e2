use Rattle.std.proofs.Common.{◌≡◌, drop}
use Rattle.bw_run.specs.Missing.{first_missing}
use Rattle.bw_run.proofs.fields.first_missing.Given as goal

abbrev pub invariant-loop-received : goal.invariant-loop-received
invariant-loop-received l = first_missing l.receives l.form ≡ first_missing (drop l.received-index l.receives) l.form
