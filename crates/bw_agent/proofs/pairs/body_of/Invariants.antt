use Rattle.std.proofs.Common.{◌≡◌, ◌++◌, [], drop}
use Rattle.form_urlencoded.specs.Form.{extend_pairs}
use Rattle.bw_agent.proofs.pairs.body_of.Given as goal

abbrev pub invariant-loop-name : goal.invariant-loop-name
invariant-loop-name l = (l.form.prefix ++ extend_pairs l.form.form (drop l.name-index l.name-items)) ≡ extend_pairs [] l.name-items
