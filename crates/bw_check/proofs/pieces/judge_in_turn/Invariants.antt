use Rattle.std.proofs.Common.{take}
use Rattle.bw_faults.specs.Lists.{Lists}
use Rattle.bw_check.specs.Faults.{IsFaultOfSome}
use Rattle.bw_check.proofs.pieces.judge_in_turn.Given as goal

abbrev pub invariant-loop-place : goal.invariant-loop-place
invariant-loop-place g l =
    Lists (IsFaultOfSome l.bench.basis.now.typed.now.service l.bench.basis.now.schema.now l.bench.facts.now (take l.place-index l.pieces)) l.faults
