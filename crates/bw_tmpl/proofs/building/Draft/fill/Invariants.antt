use Rattle.std.proofs.Common.{◌≡◌, length}
use Rattle.bw_tmpl.specs.AtOnce.{filled}
use Rattle.bw_tmpl.proofs.building.Draft.fill.Given as goal

abbrev pub invariant-pieces : goal.invariant-pieces
invariant-pieces l = filled l.gaps l.most l.self l.rest ≡ filled l.gaps l.most l.fn.self l.bytes

abbrev pub decreases-pieces : goal.decreases-pieces
decreases-pieces l = length l.rest
