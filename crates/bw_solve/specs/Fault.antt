-- When each fault comes.
use Rattle.std.specs.Prelude.{ℕ, ◌<◌}
use Rattle.bw_solve.specs.System.{IsOver}
use Rattle.bw_solve.specs.declared.fault.SolveFault.{SolveFault}
use Rattle.bw_solve.specs.declared.fault.SolveFault.TheVariants.{TooLarge, Memory}

-- a solution too large where the least solution is over the limit; want of memory at any time
abbrev pub IsCause : {V : Type 0} → (V → ℕ) → ℕ → (ℕ → V) → (ℕ → (ℕ → V) → V) → ℕ → SolveFault → Type 0
IsCause size cells empty transfer limit (TooLarge count) = (limit < count) × IsOver size cells empty transfer limit
IsCause size cells empty transfer limit Memory = Unit {0}

-- so many members are over the limit, and the fault says so
abbrev pub IsPassed : ℕ → ℕ → SolveFault → Type 0
IsPassed limit n (TooLarge count) = (limit < count) × (limit < n)
IsPassed limit n Memory = ⊥
