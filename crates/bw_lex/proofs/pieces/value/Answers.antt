use Rattle.std.proofs.Common.{arith, ◌+◌}
use Rattle.bw_lex.proofs.Digits.{value-more, value-take-le}
use Rattle.bw_lex.proofs.pieces.value.Goals as goal

pub returns-then-value-digit : goal.returns-then-value-digit
returns-then-value-digit c =
    let more = value-more c.args.digits.now c.loop-b.b-index (omega arith) in
    omega (arith, more, value-take-le c.args.digits.now (c.loop-b.b-index + 1))
