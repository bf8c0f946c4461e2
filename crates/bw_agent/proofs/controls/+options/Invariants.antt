use Rattle.std.proofs.Common.{◌≡◌, ◌++◌, take}
use Rattle.bw_lang.specs.Document.View.{forest}
use Rattle.bw_agent.specs.Controls as spec
use Rattle.bw_agent.proofs.controls.+options.Given as goal

abbrev pub invariant-put_options-loop-item : goal.invariant-put_options-loop-item
invariant-put_options-loop-item l = l.options ≡ l.initial.options ++ spec.options (forest (take l.item-index l.item-items))
