use Rattle.bw_check.proofs.checking.check.Goals as goal

pub invariant_of-result : goal.invariant_of-result
invariant_of-result g c = record { lowered = c.in-Ok.ensures.accepted.0; accepted = ∣ c.in-Ok.ensures.accepted.1 ∣₁ }
