use Rattle.std.proofs.Common.{◌≡◌, drop}
use Rattle.bw_lang.specs.Service.TermView.{fillings}
use Rattle.bw_analyse.specs.Known.{look, known_filled}
use Rattle.bw_analyse.proofs.known.Scene.+known.Given as goal

abbrev pub decreases-known : goal.decreases-known
decreases-known l = goal.size-known l

abbrev pub decreases-filled : goal.decreases-filled
decreases-filled l = goal.size-filled l

abbrev pub invariant-filled-loop-pair : goal.invariant-filled-loop-pair
invariant-filled-loop-pair l =
    let service = l.self.ground.now.typed.now.service in
    let names = look service l.self.scope.now l.self.locals.now l.self.shared.now in
    known_filled service names (fillings l.pair-items) l.fn.base ≡ known_filled service names (fillings (drop l.pair-index l.pair-items)) l.filled
