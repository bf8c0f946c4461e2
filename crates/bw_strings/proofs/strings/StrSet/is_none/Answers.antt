use Rattle.std.proofs.Common.{◌<◌, ◌^◌, subst}
use Rattle.std.specs.List.{AllByRecursion}
use Rattle.bw_strings.proofs.strings.StrSet.is_none.Goals as goal

pub returns-in-Of-clause-well_formed : goal.returns-in-Of-clause-well_formed
returns-in-Of-clause-well_formed c =
    rw c.in-Of.is (c.as_slice.ensures.set, subst (AllByRecursion (λ x. x < 2 ^ 32)) c.as_slice.ensures.value c.has_none.ensures.fit)
