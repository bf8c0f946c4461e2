use Rattle.std.proofs.Common.{◌≡◌, map, take}
use Rattle.bw_lang.specs.Table.Names.{with_names}
use Rattle.bw_lang.proofs.names.NameTable.add_fields.Given as goal

abbrev pub invariant-loop-receive : goal.invariant-loop-receive
invariant-loop-receive l = l.self ≡ with_names l.initial.self (map (λ r. r.field) (take l.receive-index l.receives))
