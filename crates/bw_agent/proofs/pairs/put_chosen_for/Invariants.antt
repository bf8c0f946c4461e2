use Rattle.std.proofs.Common.{◌≡◌, ◌++◌, drop}
use Rattle.bw_agent.specs.Filled as spec
use Rattle.bw_agent.proofs.pairs.put_chosen_for.Given as goal

abbrev pub invariant-loop-control : goal.invariant-loop-control
invariant-loop-control l =
    l.pairs ++ spec.pairs_of l.name (spec.chosen (spec.offers_for l.name (drop l.control-index l.controls)))
    ≡ l.initial.pairs ++ spec.pairs_of l.name (spec.chosen (spec.offers_for l.name l.controls))
