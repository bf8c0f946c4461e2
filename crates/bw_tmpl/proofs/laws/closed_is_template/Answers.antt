use Rattle.std.proofs.Common.{[]}
use Rattle.bw_tmpl.proofs.GapLaws.{none_open, reads_alike}
use Rattle.bw_tmpl.proofs.laws.closed_is_template.Goals as goal

pub returns-clause-template : goal.returns-clause-template
returns-clause-template c names most bytes f h =
    record {
      pieces = h.pieces;
      spelled = h.spelled.spells;
      once = h.once;
      reads = (reads_alike [] names f h.pieces []
          h.spelled.closed h.reads).0;
      nested = h.nested;
    }

pub returns-clause-no_gap : goal.returns-clause-no_gap
returns-clause-no_gap c most bytes f h = none_open [] h.pieces f h.spelled.closed h.reads
