use Rattle.std.proofs.Common.{◌≡◌, ◌++◌, take, string_bytes}
use Rattle.bw_lang.specs.Document.View.{forest}
use Rattle.bw_agent.specs.Controls.{text_in}
use Rattle.bw_agent.proofs.controls.+text.Given as goal

abbrev pub invariant-put_text-loop-item : goal.invariant-put_text-loop-item
invariant-put_text-loop-item l = string_bytes l.text ≡ string_bytes l.initial.text ++ text_in (forest (take l.item-index l.item-items))
