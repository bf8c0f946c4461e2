-- How many links of a door in memory are out.
use Rattle.std.proofs.Common.{Option, None, Some, Result, Ok, Err, ap}
use Rattle.std.specs.Prelude.{IfOk}
use Rattle.bw_out.specs.MemLinks.{DoorValue, TakesFirst}
use Rattle.bw_out.specs.declared.memory.link.MemLink.{MemLink}
use Rattle.bw_stable.specs.Counts.{CountsOut}

-- a door in memory counts what it hands out
pub counts_next : {E : Type 0} (old new : DoorValue) (next : Result (Option MemLink) E) → IfOk next (TakesFirst old new)
    → IfOk next (CountsOut old.out new.out)
counts_next old new (Ok None) takes = ap (λ (d : DoorValue). d.out) takes.1
counts_next old new (Ok (Some link)) takes = ap (λ (d : DoorValue). d.out) takes.4
counts_next old new (Err e) takes = tt
