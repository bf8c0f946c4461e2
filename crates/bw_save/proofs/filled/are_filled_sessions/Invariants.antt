use Rattle.std.proofs.Common.{◌≡◌, drop}
use Rattle.std.specs.List.{list_all}
use Rattle.bw_save.specs.Filled.{is_filled_session}
use Rattle.bw_save.proofs.filled.are_filled_sessions.Given as goal

abbrev pub invariant-loop-record : goal.invariant-loop-record
invariant-loop-record l =
    list_all (is_filled_session l.typed.service) (drop l.record-index l.records) ≡ list_all (is_filled_session l.typed.service) l.records
