use Rattle.std.proofs.Common.{◌≡◌, ◌++◌, map, take}
use Rattle.bw_lang.specs.Template.NumberedGaps.{numbered}
use Rattle.bw_tmpl.proofs.building.add_numbered.Given as goal

abbrev pub invariant-loop-attr : goal.invariant-loop-attr
invariant-loop-attr l = l.made ≡ l.fn.made ++ map (numbered l.gaps) (take l.attr-index l.attr-items)
