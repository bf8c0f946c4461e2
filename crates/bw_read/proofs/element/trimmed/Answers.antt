use Rattle.std.proofs.Common.{◌∙◌, sym, arith}
use Rattle.bw_read.proofs.Blanks.{trim_shorter, trim_stops, trim_all}
use Rattle.bw_read.proofs.element.trimmed.Goals.{else-end-test, then-end-test+then-not-is_blank}
use Rattle.bw_read.proofs.element.trimmed.Goals as goal

pub end-preserved : goal.end-preserved
end-preserved c =
    let blank = sym c.is_blank.ensures ∙ c.if-not-is_blank.false in
    record { within = omega arith; same = trim_shorter c.args.bytes.now c.end.n c.end-test.true c.end.invariant.within blank ∙ c.end.invariant.same }

pub returns : goal.returns
returns c = elim c.end-test.branch [
  | else-end-test w ↦ trim_all c.args.bytes.now c.end.n (omega arith) c.end.invariant.same
  | then-end-test+then-not-is_blank w ↦
      let other = sym w.is_blank.ensures ∙ w.if-not-is_blank.true in
      sym (trim_stops c.args.bytes.now c.end.n w.end-test.true c.end.invariant.within other) ∙ c.end.invariant.same
]
