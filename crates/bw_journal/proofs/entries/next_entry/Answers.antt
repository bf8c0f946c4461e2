use Rattle.std.proofs.Common.{arith}
use Rattle.bw_journal.proofs.Parts.{long_front, next_is_few}
use Rattle.bw_journal.proofs.entries.next_entry.Goals as goal

pub returns-then-len-gt-MAX_MESSAGE_BYTES-clause-next : goal.returns-then-len-gt-MAX_MESSAGE_BYTES-clause-next
returns-then-len-gt-MAX_MESSAGE_BYTES-clause-next c = long_front c.args.sum c.args.bytes.now (omega (arith, c.four_from-len.ensures))

pub returns : goal.returns
returns c = record {
  next = c.read_entry.ensures;
  short = next_is_few c.args.sum c.args.bytes.now c.read_entry.result c.read_entry.ensures;
}
