use Rattle.std.proofs.Common.{◌≡◌, map, take}
use Rattle.bw_lang.specs.Table.Names.{with_names}
use Rattle.bw_types.proofs.tables.add_sessions.Given as goal

abbrev pub invariant-loop-session : goal.invariant-loop-session
invariant-loop-session l = l.names ≡ with_names l.initial.names (map (λ s. s.name) (take l.session-index l.sessions))
