use Rattle.std.proofs.Common.{◌∙◌, false}
use Rattle.bw_lex.proofs.Templates.{template-more}
use Rattle.bw_lex.proofs.pieces.template.Goals as goal

pub loop-n-preserved : goal.loop-n-preserved
loop-n-preserved c = c.loop-n.invariant ∙ template-more c.args.bad c.args.bytes.now c.loop-n.n false c.loop-n-test.true c.if-starts_with.ensures.value
