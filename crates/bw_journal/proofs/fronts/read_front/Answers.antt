use Rattle.std.proofs.Common.{arith, sym}
use Rattle.std.proofs.lemmas.List.{take-append-drop}
use Rattle.bw_journal.proofs.Numbers.{front_read}
use Rattle.bw_journal.proofs.fronts.read_front.Goals as goal

pub returns-clause-some : goal.returns-clause-some
returns-clause-some c = record {
  front_is = front_read c.args.bytes.now c.split_at.result.0.now c.split_at-2.result.1.now c.four_from.result c.eight_from.result
      (λ i. omega (arith, c.type_inv.bytes i)) (omega arith) c.split_at.ensures.front c.split_at-2.ensures.back c.four_from.ensures c.eight_from.ensures;
  parts = rw (c.split_at.ensures.front, c.split_at.ensures.back) (sym (take-append-drop 12 c.args.bytes.now));
  len = omega (arith, c.four_from.type_inv);
  key = omega (arith, c.eight_from.type_inv);
}
