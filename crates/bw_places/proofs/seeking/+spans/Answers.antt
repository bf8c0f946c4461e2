use Rattle.std.proofs.Common.{arith, ◌∙◌, ap, sym}
use Rattle.std.proofs.lemmas.Grind.{common_steps}
use Rattle.bw_lang.proofs.Sizes.{statement_at_read}
use Rattle.bw_places.proofs.Rests.{block_at, spans_at}
use Rattle.bw_places.proofs.seeking.+spans.Goals as goal

pub push_block-push_stmt-requires : goal.push_block-push_stmt-requires
push_block-push_stmt-requires t c = (
  grind (arith, common_steps, statement_at_read),
  omega (arith, block_at c.as_slice-stmt-items.result.now c.loop-stmt.stmt-index c.stmt-item.result c.stmt-item.is c.loop-stmt-test.true),
)
