use Rattle.std.proofs.Common.{◌≡◌, drop}
use Rattle.bw_lang.specs.Document.View.{forest}
use Rattle.bw_types.specs.TemplateFaults.{items_faults}
use Rattle.bw_types.proofs.names.Names.+items.Given as goal

-- the faults are those from here on
abbrev pub invariant-items-loop-item : goal.invariant-items-loop-item
invariant-items-loop-item l = items_faults l.self.service.now l.template (forest l.item-items) ≡ items_faults l.self.service.now l.template
    (forest (drop l.item-index l.item-items))
