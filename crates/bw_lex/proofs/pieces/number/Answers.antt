use Rattle.bw_lex.proofs.Digits.{all_digits}
use Rattle.bw_lex.proofs.pieces.number.Goals as goal

pub value-requires : goal.value-requires
value-requires c = all_digits c.args.bytes.now c.digits_len-len.result c.digits_len-len.ensures
