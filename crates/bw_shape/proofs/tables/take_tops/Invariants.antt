use Rattle.std.proofs.Common.{ℕ, ◌<◌, get_or}
use Rattle.bw_lang.specs.Table.Names.{Extends}
use Rattle.bw_shape.specs.Nodes.Templates.{template_at}
use Rattle.bw_shape.specs.Columns.{AreKnown}
use Rattle.bw_shape.proofs.tables.take_tops.Given as goal

abbrev pub invariant-loop-n : goal.invariant-loop-n
invariant-loop-n l = Extends l.initial.tags l.tags × ((i : ℕ) → i < l.n-index → AreKnown l.tags (template_at l.templates (get_or l.order i 0)))
