use Rattle.std.proofs.Common.{◌+◌, arith}
use Rattle.bw_format.proofs.FileLaws.{so_far_at, so_far_on, so_far_next, so_far_last}
use Rattle.bw_format.proofs.file.read_formats.Goals as goal
use Rattle.bw_format.proofs.file.read_formats.Goals.{then-b-eq10+in_ok-add, else-b-eq10}

pub loop-i-preserved : goal.loop-i-preserved
loop-i-preserved c =
    elim c.if-b-eq10.branch [
      | then-b-eq10+in_ok-add w ↦ record {
        start = omega (arith, w.start-is);
        number = omega (arith, w.number-is, c.loop-i.invariant.number);
        reads = so_far_at c.args.bytes.now _ _ _ _ _ _ (c.loop-i.i + 1) w.number-is w.formats-is w.start-is
            (so_far_next c.args.bytes.now _ _ _ _ c.loop-i.start c.loop-i.i c.loop-i-test.true w.if-b-eq10.true w.without_cr.ensures
            w.in_ok-add.ensures.ok c.loop-i.invariant.reads);
      }
      | else-b-eq10 w ↦ record {
        start = omega (arith, w.start-is, c.loop-i.invariant.start);
        number = omega (arith, w.number-is, c.loop-i.invariant.number);
        reads = so_far_at c.args.bytes.now _ _ _ _ _ _ (c.loop-i.i + 1) w.number-is w.formats-is w.start-is
            (so_far_on c.args.bytes.now _ _ c.loop-i.start c.loop-i.i c.loop-i-test.true c.loop-i.invariant.start w.if-b-eq10.false c.loop-i.invariant.reads);
      }
    ]

pub returns-clause-ok : goal.returns-clause-ok
returns-clause-ok c =
    so_far_last c.args.bytes.now _ _ _ c.loop-i.start c.loop-i.i c.loop-i-test.false c.loop-i.auto.i-end (omega
    (arith, c.if-bytes-gt-MAX_FORMATS_BYTES.false)) c.in_ok-add-2.ensures.ok c.loop-i.invariant.reads
