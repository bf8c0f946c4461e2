use Rattle.std.proofs.Common.{◌≡◌, take}
use Rattle.bw_lang.specs.Document.View.{forest}
use Rattle.bw_lang.specs.Text.Bytes.{is_blank_text}
use Rattle.bw_schema.specs.Validity.{each_text}
use Rattle.bw_valid.proofs.children.are_silent.Given as goal

abbrev pub invariant-loop-item : goal.invariant-loop-item
invariant-loop-item l = l.fine ≡ each_text is_blank_text (forest (take l.item-index l.item-items))
