use Rattle.std.proofs.Common.{◌≡◌, ◌++◌, drop}
use Rattle.bw_places.specs.Drafted.{drafts_of}
use Rattle.bw_diagnose.specs.Meant.{declared_names}
use Rattle.bw_diagnose.proofs.names.push_declared.Given as goal

abbrev pub invariant-loop-one : goal.invariant-loop-one
invariant-loop-one l = l.names.items ++ declared_names l.sort (drafts_of (drop l.one-index l.declarations))
    ≡ l.initial.names.items ++ declared_names l.sort (drafts_of l.declarations)
