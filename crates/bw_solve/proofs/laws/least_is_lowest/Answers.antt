use Rattle.bw_solve.proofs.Least.{least_closed, least_risen, least_lowest}
use Rattle.bw_solve.proofs.laws.least_is_lowest.Goals as goal

pub returns : goal.returns
returns g c =
    let L = g.met.S.Value.Lattice.laws in
    let S = g.met.S.System.laws c.args.system.now in
    record {
      closed = λ f ff least. (least_closed L S f ff least, least_risen L S f ff least);
      lowest = λ f h ff fh least closed. least_lowest L S f ff least h fh closed;
    }
