use Rattle.std.proofs.Common.{◌≡◌, ◌-◌, false, length}
use Rattle.bw_out.specs.Sends.{Took}
use Rattle.bw_http.specs.Taken.{IsFilled}
use Rattle.bw_recall.proofs.window.Window.fill.Given as goal

abbrev pub invariant-more : goal.invariant-more
invariant-more g l = record {
  filled : IsFilled (g.S.Channel.left l.fn.source) (g.S.Channel.left l.source) l.fn.self.bytes l.self.bytes;
  goes_on : l.self.ended ≡ false;
  size : l.self.size ≡ l.fn.self.size;
  took : Took g.S.Channel l.fn.source l.source;
}

abbrev pub decreases-more : goal.decreases-more
decreases-more g l = l.self.size - length l.self.bytes
