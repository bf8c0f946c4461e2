use Rattle.std.proofs.Common.{◌≡◌, [], ◌∷◌, sym, ◌∙◌, ap, subst}
use Rattle.std.specs.List.{AllByRecursion}
use Rattle.std.specs.declared.cmp.Ordering.TheVariants.{Less}
use Rattle.bw_solve.specs.Sets.{IsSet, merge}
use Rattle.bw_solve.specs.Lawful.SetLaws.{merge_set}
use Rattle.bw_solve.proofs.Walk.{merge_last}
use Rattle.bw_solve.proofs.set.Set.add.Goals as goal
use Rattle.bw_solve.proofs.set.Set.add.Given.{Over}

-- all members are below the new one, so it goes to the end
at_end : (g : Over) (c : goal.In_ok-push g) → c.push.new.self.items ≡ merge g.T.Ord.cmp c.self.inside.members.items (c.args.member ∷ [])
at_end g c =
    let below = subst (AllByRecursion (λ y. g.T.Ord.cmp y c.args.member ≡ Less)) c.deref.ensures.value (c.ends_below.ensures c.if-ends_below.true) in
    c.in_ok-push.ensures.items ∙ sym (merge_last g.T.Ord.cmp c.self.inside.members.items c.args.member below)

pub invariant_of-self-then-ends_below : goal.invariant_of-self-then-ends_below
invariant_of-self-then-ends_below g c =
    subst (IsSet g.T.Ord.cmp) (sym (at_end g c)) (merge_set g.met.T.Ord.total c.self.inside.members.items (c.args.member ∷ []) c.self.invariant (tt, tt))

pub returns-then-ends_below-clause-ok : goal.returns-then-ends_below-clause-ok
returns-then-ends_below-clause-ok g c = at_end g c ∙ ap (λ xs. merge g.T.Ord.cmp xs (c.args.member ∷ [])) c.self.view_is
