-- A reply is sent, whatever comes of it.
use Rattle.std.proofs.Common.{◌≡◌, List, ℕ, Result, Ok, Err, subst, inl, inr}
use Rattle.bw_out.specs.Sends.{Sends}
use Rattle.bw_out.specs.declared.outside.Channel.{Ghosts}
use Rattle.bw_keeping.specs.Steps.{IsSent}

-- these bytes were sent, or a first part of them
pub sent_so : {Link T E : Type 0} (channel : Ghosts Link) (before now : Link) (bytes want : List ℕ) (result : Result T E) → bytes ≡ want
    → Sends channel before now bytes result → IsSent channel before now want
sent_so {Link} channel before now bytes want (Ok t) is s =
    subst (λ (b : List ℕ). IsSent channel before now b) is
    (record { writes = inl (s.writes.whole, s.cause.quiet); left = s.left; read_faults = s.read_faults })
sent_so {Link} channel before now bytes want (Err e) is s =
    subst (λ (b : List ℕ). IsSent channel before now b) is
    (record { writes = inr (s.writes.part, s.cause.failed); left = s.left; read_faults = s.read_faults })
