use Rattle.std.proofs.Common.{◌≡◌, drop}
use Rattle.bw_types.specs.TemplateFaults.{attr_faults}
use Rattle.bw_types.proofs.names.Names.attrs.Given as goal

-- the faults are those from here on
abbrev pub invariant-loop-attr : goal.invariant-loop-attr
invariant-loop-attr l = attr_faults l.self.service.now l.attr-items ≡ attr_faults l.self.service.now (drop l.attr-index l.attr-items)
