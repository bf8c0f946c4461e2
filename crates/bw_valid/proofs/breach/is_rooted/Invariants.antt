use Rattle.std.proofs.Common.{◌≡◌, drop}
use Rattle.bw_lang.specs.Document.View.{forest}
use Rattle.bw_schema.specs.Validity.{is_rooted}
use Rattle.bw_valid.specs.Breaches.{is_rooted_from}
use Rattle.bw_valid.proofs.breach.is_rooted.Given as goal

abbrev pub invariant-loop-item : goal.invariant-loop-item
invariant-loop-item l = is_rooted l.root l.items ≡ is_rooted_from l.found l.root (forest (drop l.item-index l.item-items))
