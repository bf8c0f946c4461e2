use Rattle.std.proofs.Common.{◌∙◌, sym}
use Rattle.bw_types.proofs.Known.{knows_template}
use Rattle.bw_types.proofs.names.Names.template_kind.Goals as goal

pub returns-then-has : goal.returns-then-has
returns-then-has c = let n = c.args.self.now in rw (sym (knows_template n.service.now n.known c.args.name.now) ∙ sym c.has.ensures ∙ c.if-has.true)

pub returns-else-has : goal.returns-else-has
returns-else-has c = let n = c.args.self.now in rw (sym (knows_template n.service.now n.known c.args.name.now) ∙ sym c.has.ensures ∙ c.if-has.false)
