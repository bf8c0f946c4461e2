use Rattle.std.proofs.Common.{◌≡◌, refl, ap, sym, ◌∙◌, subst}
use Rattle.bw_explain.specs.declared.atom.Atom.{Atom}
use Rattle.bw_explain.specs.Atoms.{passes, fails}
use Rattle.bw_explain.specs.Owns.{failing_own, leaving_own, own_least}
use Rattle.bw_explain.specs.Sizes.{attrs_least}
use Rattle.bw_explain.proofs.OwnCases.{other_least}
use Rattle.bw_explain.proofs.own.own_least.Goals as goal

pub returns-in-NotAllowed-clause-is : goal.returns-in-NotAllowed-clause-is
returns-in-NotAllowed-clause-is c =
    let r = c.args.breach.now.rule.now in
    let ns = c.args.page.now.nodes.now in
    c.failing_own.ensures.is ∙ subst (λ (a : Atom). failing_own ns (passes r a)
    (fails r a) c.args.n c.args.attrs.now ≡ own_least ns r a c.args.n c.args.attrs.now)
    (sym c.in-NotAllowed.is) refl

pub returns-in-OtherValue-clause-is : goal.returns-in-OtherValue-clause-is
returns-in-OtherValue-clause-is c =
    let r = c.args.breach.now.rule.now in
    let ns = c.args.page.now.nodes.now in
    c.failing_own-in-OtherValue.ensures.is ∙ subst (λ (a : Atom).
    failing_own ns (passes r a) (fails r a) c.args.n c.args.attrs.now ≡ own_least ns r a c.args.n c.args.attrs.now)
    (sym c.in-OtherValue.is) refl

pub returns-in-Absent-clause-is : goal.returns-in-Absent-clause-is
returns-in-Absent-clause-is c =
    let r = c.args.breach.now.rule.now in
    let ns = c.args.page.now.nodes.now in
    c.leaving_own.ensures.is ∙ subst (λ (a : Atom). leaving_own ns (passes r a)
    (fails r a) c.in-Absent.name c.args.n c.args.attrs.now ≡ own_least ns r a c.args.n c.args.attrs.now)
    (sym c.in-Absent.is) refl

pub returns-in-Outside-clause-is : goal.returns-in-Outside-clause-is
returns-in-Outside-clause-is c =
    let r = c.args.breach.now.rule.now in
    let ns = c.args.page.now.nodes.now in
    c.leaving_own-in-Outside.ensures.is ∙ subst (λ (a : Atom).
    leaving_own ns (passes r a) (fails r a) c.in-Outside.name c.args.n c.args.attrs.now ≡ own_least ns r a c.args.n c.args.attrs.now)
    (sym c.in-Outside.is) refl

pub returns-in_default-clause-is : goal.returns-in_default-clause-is
returns-in_default-clause-is c =
    let d = c.in_default in
    c.attrs_least.ensures.least ∙ ap (λ w. attrs_least w c.args.attrs.now) c.node.ensures
    ∙ sym (other_least c.args.page.now.nodes.now c.args.breach.now.rule.now c.args.n c.args.attrs.now c.args.breach.now.atom.now d.not-NotAllowed
    d.not-OtherValue d.not-Absent
    d.not-Outside)
