use Rattle.std.proofs.Common.{◌≡◌, drop, find, length, map}
use Rattle.std.specs.Prelude.{nat_lt}
use Rattle.bw_lang.specs.Service.CodeNames.{local_names}
use Rattle.bw_lang.specs.Service.Sorted.{sessions_of}
use Rattle.bw_limits.proofs.declarations.too_many_locals.Given as goal

abbrev pub invariant-loop-declaration : goal.invariant-loop-declaration
invariant-loop-declaration l =
    find (nat_lt 64) (map (λ s. length (local_names s.body)) (sessions_of (drop l.declaration-index l.declarations)))
    ≡ find (nat_lt 64) (map (λ s. length (local_names s.body)) (sessions_of l.declarations))
