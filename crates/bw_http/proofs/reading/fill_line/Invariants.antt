use Rattle.std.proofs.Common.{◌-◌, ◌≡◌, ◌<◌, ◌≤◌, true, false, length}
use Rattle.std.specs.List.{list_all}
use Rattle.httparse.specs.Pieces.{is_newline}
use Rattle.bw_out.specs.Sends.{Took}
use Rattle.bw_http.specs.Heads.{HasNoHead, line_count}
use Rattle.bw_http.specs.Taken.{IsFilled}
use Rattle.bw_http.proofs.reading.fill_line.Given as goal

abbrev pub invariant-more : goal.invariant-more
invariant-more g l = record {
  filled : IsFilled (g.S.Channel.left l.fn.source) (g.S.Channel.left l.source) l.fn.intake l.intake;
  took : Took g.S.Channel l.fn.source l.source;
  none : HasNoHead l.intake;
  few : line_count l.intake < 67;
  blank : l.begun ≡ false → list_all is_newline l.intake ≡ true;
  grows : length l.fn.intake ≤ length l.intake;
}

abbrev pub decreases-more : goal.decreases-more
decreases-more g l = 16384 - length l.intake
