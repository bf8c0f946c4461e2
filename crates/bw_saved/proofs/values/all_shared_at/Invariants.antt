use Rattle.std.proofs.Common.{◌≡◌, drop, map}
use Rattle.bw_saved.proofs.Loop.{with_front}
use Rattle.bw_types.specs.Scopes.{shared_kinds}
use Rattle.bw_saved.specs.Values.Reading.{variables_at}
use Rattle.bw_saved.proofs.values.all_shared_at.Given as goal

abbrev pub invariant-loop-shared : goal.invariant-loop-shared
invariant-loop-shared l =
    with_front l.values (variables_at l.typed.service (map (λ v. (v.name, v.kind)) (drop l.shared-index l.all)) l.rest)
    ≡ variables_at l.typed.service (map (λ v. (v.name, v.kind)) l.all) l.bytes
