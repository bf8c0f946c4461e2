use Rattle.std.proofs.Common.{◌≡◌, ◌++◌, drop}
use Rattle.bw_agent.specs.Filled as spec
use Rattle.bw_agent.proofs.pairs.put_chosen_in.Given as goal

abbrev pub invariant-loop-offer : goal.invariant-loop-offer
invariant-loop-offer l =
    l.pairs ++ spec.pairs_of l.name (spec.chosen (drop l.offer-index l.offers)) ≡ l.initial.pairs ++ spec.pairs_of l.name (spec.chosen l.offers)
