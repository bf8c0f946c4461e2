use Rattle.std.proofs.Common.{◌≡◌, ◌++◌, drop, codes}
use Rattle.std.specs.Prelude.{flat_map, string_bytes}
use Rattle.bw_lang.specs.declared.service.Session.{Session}
use Rattle.bw_world.proofs.pages.index.Given as goal

abbrev pub invariant-loop-session : goal.invariant-loop-session
invariant-loop-session l =
    string_bytes l.names ++ flat_map (λ (s : Session). s.name ++ codes "\n") (drop l.session-index l.session-items) ≡ flat_map
    (λ (s : Session). s.name ++ codes "\n") l.session-items
