use Rattle.bw_solve.specs.Lawful.SetLaws.{merge_set}
use Rattle.bw_solve.proofs.set.Set.union.Goals as goal

pub invariant_of-result : goal.invariant_of-result
invariant_of-result g c =
    rw (c.in_ok-merged.ensures, c.deref.ensures.value, c.deref-2.ensures.value)
    (merge_set g.met.T.Ord.total c.self.inside.members.items c.other.inside.members.items c.self.invariant c.other.invariant)
