-- A number of members that is passed stays passed, and some round has as many.
use Rattle.std.proofs.Common.{ℕ, ◌<◌, ◌≤◌, arith}
use Rattle.bw_solve.specs.System.{rounds, members}
use Rattle.bw_solve.specs.Fault.{IsCause, IsPassed}
use Rattle.bw_solve.specs.declared.fault.SolveFault.{SolveFault}
use Rattle.bw_solve.specs.declared.fault.SolveFault.TheVariants.{TooLarge, Memory}

pub passed_more : (limit n m : ℕ) (e : SolveFault) → n ≤ m → IsPassed limit n e → IsPassed limit m e
passed_more limit n m (TooLarge c) h p = (p.0, let l : limit < n = p.1 in omega arith)
passed_more limit n m Memory h p = absurd p

pub cause_by_round : {V : Type 0} (size : V → ℕ) (cells : ℕ) (empty : ℕ → V) (transfer : ℕ → (ℕ → V) → V) (limit k : ℕ) (e : SolveFault)
    → IsPassed limit (members size (rounds empty transfer k) cells) e → IsCause size cells empty transfer limit e
cause_by_round size cells empty transfer limit k (TooLarge c) p = (p.0, (k, p.1))
cause_by_round size cells empty transfer limit k Memory p = absurd p
