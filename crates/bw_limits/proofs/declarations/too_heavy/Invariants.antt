use Rattle.std.proofs.Common.{◌≡◌, drop, find, map}
use Rattle.std.specs.Prelude.{nat_lt}
use Rattle.bw_lang.specs.Service.Sorted.{templates_of}
use Rattle.bw_lang.specs.Document.Measures.{constant_weight}
use Rattle.bw_limits.proofs.declarations.too_heavy.Given as goal

abbrev pub invariant-loop-declaration : goal.invariant-loop-declaration
invariant-loop-declaration l =
    find (nat_lt 262144) (map (λ t. constant_weight t.items) (templates_of (drop l.declaration-index l.declarations)))
    ≡ find (nat_lt 262144) (map (λ t. constant_weight t.items) (templates_of l.declarations))
