use Rattle.std.proofs.Common.{sym, subst, ap, ◌∙◌}
use Rattle.bw_solve.specs.Sets.{IsSet, has}
use Rattle.bw_solve.proofs.Search.{found}
use Rattle.bw_solve.proofs.set.Set.contains.Goals as goal

pub returns : goal.returns
returns g c =
    let e = c.deref.ensures.value in
    c.is_ok.ensures.value
    ∙ found g.T.Ord.cmp g.met.T.Ord.total c.deref.result.now c.args.member.now
    (subst (IsSet g.T.Ord.cmp) (sym e) c.self.invariant) c.binary_search.result c.binary_search.ensures.bound c.binary_search.ensures.position
    ∙ ap (λ xs. has g.T.Ord.cmp xs c.args.member.now) (e ∙ c.self.view_is)
