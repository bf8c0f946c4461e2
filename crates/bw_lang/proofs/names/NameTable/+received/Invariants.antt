use Rattle.std.proofs.Common.{◌≡◌, take}
use Rattle.bw_lang.specs.Service.CodeNames.{received_fields}
use Rattle.bw_lang.specs.Service.CodeView.{code}
use Rattle.bw_lang.specs.Table.Names.{with_names}
use Rattle.bw_lang.proofs.names.NameTable.+received.Given as goal

abbrev pub invariant-add_received-loop-stmt : goal.invariant-add_received-loop-stmt
invariant-add_received-loop-stmt l =
    l.self ≡ with_names l.initial.self (received_fields (code (take l.stmt-index l.stmt-items)))
