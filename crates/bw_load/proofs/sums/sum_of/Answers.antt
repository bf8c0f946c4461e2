use Rattle.std.proofs.Common.{◌≡◌, ◌∷◌, [], Some}
use Rattle.bw_load.proofs.SumLaws.{sum_is, built_known, done_ready}
use Rattle.bw_load.specs.Sums.{sum_of}
use Rattle.bw_load.proofs.sums.sum_of.Goals as goal

pub loop-sums-init : goal.loop-sums-init
loop-sums-init c =
    record {
      left = rw (c.in_ok-left.ensures, c.new-sums.ensures) (sum_is c.args.typed.now.service c.args.doc.now);
      known = rw c.in_ok-left.ensures (built_known c.args.typed.now.service c.args.doc.now c.requires.built);
    }
