use Rattle.std.proofs.Common.{◌-◌, length}
use Rattle.bw_out.specs.Sends.{Took}
use Rattle.bw_http.specs.Taken.{IsFilled}
use Rattle.bw_http.proofs.reading.take_request.Given as goal

abbrev pub invariant-turns : goal.invariant-turns
invariant-turns g l = record {
  filled : IsFilled (g.S.Channel.left l.fn.source) (g.S.Channel.left l.source) l.fn.intake l.intake;
  took : Took g.S.Channel l.fn.source l.source;
}

abbrev pub decreases-turns : goal.decreases-turns
decreases-turns g l = 81920 - length l.intake
