use Rattle.std.proofs.Common.{◌≡◌, take}
use Rattle.bw_lang.specs.Template.Controls.{control_names}
use Rattle.bw_lang.specs.Table.Names.{with_names}
use Rattle.bw_lang.specs.Document.View.{forest}
use Rattle.bw_lang.proofs.names.NameTable.+controls.Given as goal

abbrev pub invariant-add_controls-loop-item : goal.invariant-add_controls-loop-item
invariant-add_controls-loop-item l =
    l.self ≡ with_names l.initial.self (control_names (forest (take l.item-index l.item-items)))
