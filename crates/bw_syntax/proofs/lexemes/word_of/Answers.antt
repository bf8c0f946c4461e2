use Rattle.bw_syntax.proofs.Words.{word_utf8}
use Rattle.bw_syntax.proofs.lexemes.word_of.Goals as goal

pub unreachable-requires : goal.unreachable-requires
unreachable-requires c = c.in-Err.ensures.cases.0 (word_utf8 c.args.bytes.now c.requires)
