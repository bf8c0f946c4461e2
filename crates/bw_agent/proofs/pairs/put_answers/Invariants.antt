use Rattle.std.proofs.Common.{◌≡◌, ◌++◌, drop}
use Rattle.bw_lang.specs.Service.Submissions.{values_of}
use Rattle.bw_agent.specs.Filled as spec
use Rattle.bw_agent.proofs.pairs.put_answers.Given as goal

abbrev pub invariant-loop-asked : goal.invariant-loop-asked
invariant-loop-asked l =
    l.pairs ++ spec.pairs_of l.name (values_of l.name (drop l.asked-index l.asked-items))
    ≡ l.initial.pairs ++ spec.pairs_of l.name (values_of l.name l.asked-items)
