use Rattle.std.proofs.Common.{◌≡◌, ◌++◌, take}
use Rattle.bw_lang.specs.Document.View.{forest}
use Rattle.bw_agent.specs.Controls as spec
use Rattle.bw_agent.proofs.controls.+controls.Given as goal

abbrev pub invariant-put_controls-loop-item : goal.invariant-put_controls-loop-item
invariant-put_controls-loop-item l = l.controls ≡ l.initial.controls ++ spec.controls (forest (take l.item-index l.item-items))
