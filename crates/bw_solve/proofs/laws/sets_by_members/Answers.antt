use Rattle.bw_solve.specs.Lawful.SetLaws.{has_within, within_by, merge_has}
use Rattle.bw_solve.proofs.laws.sets_by_members.Goals as goal

pub returns : goal.returns
returns g c =
    let o = g.met.T.Ord.total in
    record {
      within = λ xs ys. (λ w x h. has_within o xs ys x w h, within_by o xs ys);
      union = merge_has o;
    }
