use Rattle.std.proofs.Common.{◌-◌, length}
use Rattle.bw_out.specs.Sends.{Took}
use Rattle.bw_http.specs.Taken.{IsFilled}
use Rattle.bw_http.proofs.reading.fill_to.Given as goal

abbrev pub invariant-more : goal.invariant-more
invariant-more g l = record {
  filled : IsFilled (g.S.Channel.left l.fn.source) (g.S.Channel.left l.source) l.fn.intake l.intake;
  took : Took g.S.Channel l.fn.source l.source;
}

abbrev pub decreases-more : goal.decreases-more
decreases-more g l = l.need - length l.intake
