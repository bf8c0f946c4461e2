use Rattle.std.proofs.Common.{◌≡◌, drop}
use Rattle.bw_lang.specs.Service.TermView.{fillings}
use Rattle.bw_analyse.specs.Known.{known_filled}
use Rattle.bw_analyse.specs.Noting.{noted_filled, bares}
use Rattle.bw_analyse.proofs.known.Scene.+noted.Given as goal

abbrev pub decreases-noted : goal.decreases-noted
decreases-noted l = goal.size-noted l

abbrev pub decreases-noted_pairs : goal.decreases-noted_pairs
decreases-noted_pairs l = goal.size-noted_pairs l

abbrev pub invariant-noted_pairs-loop-pair : goal.invariant-noted_pairs-loop-pair
invariant-noted_pairs-loop-pair l =
    let service = l.self.ground.now.typed.now.service in
    let names = bares service l.self.scope.now l.self.locals.now l.self.shared.now in
    record {
      value : known_filled service names (fillings l.pair-items) l.fn.base ≡ known_filled service names (fillings (drop l.pair-index l.pair-items)) l.filled;
      faults : noted_filled service names l.statement (fillings l.pair-items) l.fn.base l.initial.faults
          ≡ noted_filled service names l.statement (fillings (drop l.pair-index l.pair-items)) l.filled l.faults;
    }
