use Rattle.std.proofs.Common.{◌≤◌, length, refl, subst}
use Rattle.std.specs.List.{list_all}
use Rattle.std.proofs.lemmas.Result.{IfOk-weaker}
use Rattle.bw_explain.specs.declared.sizes.TheConstants.{PAST}
use Rattle.bw_explain.specs.declared.atom.Atom.TheVariants.{NotAllowed, OtherValue, Absent, Outside}
use Rattle.bw_explain.specs.Sizes.{capped, may_fill}
use Rattle.bw_explain.specs.Ways.{ways_at}
use Rattle.bw_explain.proofs.Breaking.{own_size, failing_broken, absent_broken, outside_broken}
use Rattle.bw_explain.proofs.Numbers.{if_there}
use Rattle.bw_explain.proofs.OwnCases.{failing_parts, leaving_parts, other_least, other_broken}
use Rattle.bw_explain.proofs.own.fill_own.Goals as goal

pub fill_failing-requires-clause-fills : goal.fill_failing-requires-clause-fills
fill_failing-requires-clause-fills c =
    (failing_parts c.args.page.now.nodes.now c.args.breach.now.rule.now c.args.n c.args.attrs.now c.args.breach.now.atom.now
    NotAllowed c.in-NotAllowed.is refl c.requires.there).0

pub fill_failing-requires-clause-fails : goal.fill_failing-requires-clause-fails
fill_failing-requires-clause-fails c =
    (failing_parts c.args.page.now.nodes.now c.args.breach.now.rule.now c.args.n c.args.attrs.now c.args.breach.now.atom.now
    NotAllowed c.in-NotAllowed.is refl c.requires.there).1

pub fill_failing-requires-in-OtherValue-clause-fills : goal.fill_failing-requires-in-OtherValue-clause-fills
fill_failing-requires-in-OtherValue-clause-fills c =
    (failing_parts c.args.page.now.nodes.now c.args.breach.now.rule.now c.args.n c.args.attrs.now c.args.breach.now.atom.now
    OtherValue c.in-OtherValue.is refl c.requires.there).0

pub fill_failing-requires-in-OtherValue-clause-fails : goal.fill_failing-requires-in-OtherValue-clause-fails
fill_failing-requires-in-OtherValue-clause-fails c =
    (failing_parts c.args.page.now.nodes.now c.args.breach.now.rule.now c.args.n c.args.attrs.now c.args.breach.now.atom.now
    OtherValue c.in-OtherValue.is refl c.requires.there).1

pub fill_leaving-requires-clause-fills : goal.fill_leaving-requires-clause-fills
fill_leaving-requires-clause-fills c =
    (leaving_parts c.args.page.now.nodes.now c.args.breach.now.rule.now c.args.n c.args.attrs.now c.args.breach.now.atom.now
    (Absent c.in-Absent.name) c.in-Absent.name c.in-Absent.is refl c.requires.there).0

pub fill_leaving-requires-clause-leaves : goal.fill_leaving-requires-clause-leaves
fill_leaving-requires-clause-leaves c =
    (leaving_parts c.args.page.now.nodes.now c.args.breach.now.rule.now c.args.n c.args.attrs.now c.args.breach.now.atom.now
    (Absent c.in-Absent.name) c.in-Absent.name c.in-Absent.is refl c.requires.there).1

pub fill_leaving-requires-in-Outside-clause-fills : goal.fill_leaving-requires-in-Outside-clause-fills
fill_leaving-requires-in-Outside-clause-fills c =
    (leaving_parts c.args.page.now.nodes.now c.args.breach.now.rule.now c.args.n c.args.attrs.now c.args.breach.now.atom.now
    (Outside c.in-Outside.name c.in-Outside.field-1) c.in-Outside.name c.in-Outside.is refl c.requires.there).0

pub fill_leaving-requires-in-Outside-clause-leaves : goal.fill_leaving-requires-in-Outside-clause-leaves
fill_leaving-requires-in-Outside-clause-leaves c =
    (leaving_parts c.args.page.now.nodes.now c.args.breach.now.rule.now c.args.n c.args.attrs.now c.args.breach.now.atom.now
    (Outside c.in-Outside.name c.in-Outside.field-1) c.in-Outside.name c.in-Outside.is refl c.requires.there).1

pub fill_attrs-requires-clause-fills : goal.fill_attrs-requires-clause-fills
fill_attrs-requires-clause-fills c =
    let d = c.in_default in
    let ns = c.args.page.now.nodes.now in
    let e = other_least ns c.args.breach.now.rule.now c.args.n c.args.attrs.now c.args.breach.now.atom.now d.not-NotAllowed d.not-OtherValue d.not-Absent
    d.not-Outside in
    (if_there (list_all (λ x. may_fill (ways_at ns c.args.n) x.value) c.args.attrs.now) (capped (length c.args.attrs.now))
    (subst (λ v. v ≤ PAST) e c.requires.there)).0

pub returns-in-NotAllowed : goal.returns-in-NotAllowed
returns-in-NotAllowed c =
    let r = c.args.breach.now.rule.now in
    let a = c.args.breach.now.atom.now in
    let ns = c.args.page.now.nodes.now in
    IfOk-weaker c.fill_failing.result _ _ (λ b h. (
      h.0,
      failing_broken r a NotAllowed b c.in-NotAllowed.is refl h.1,
      own_size ns r c.args.n c.args.attrs.now b h.0 a c.requires.there,
    )) c.fill_failing.ensures

pub returns-in-OtherValue : goal.returns-in-OtherValue
returns-in-OtherValue c =
    let r = c.args.breach.now.rule.now in
    let a = c.args.breach.now.atom.now in
    let ns = c.args.page.now.nodes.now in
    IfOk-weaker c.fill_failing-in-OtherValue.result _ _ (λ b h. (
      h.0,
      failing_broken r a OtherValue b c.in-OtherValue.is refl h.1,
      own_size ns r c.args.n c.args.attrs.now b h.0 a c.requires.there,
    )) c.fill_failing-in-OtherValue.ensures

pub returns-in-Absent : goal.returns-in-Absent
returns-in-Absent c =
    let r = c.args.breach.now.rule.now in
    let a = c.args.breach.now.atom.now in
    let ns = c.args.page.now.nodes.now in
    IfOk-weaker c.fill_leaving.result _ _ (λ b h. (
      h.0,
      absent_broken r a c.in-Absent.name b c.in-Absent.is h.1,
      own_size ns r c.args.n c.args.attrs.now b h.0 a c.requires.there,
    )) c.fill_leaving.ensures

pub returns-in-Outside : goal.returns-in-Outside
returns-in-Outside c =
    let r = c.args.breach.now.rule.now in
    let a = c.args.breach.now.atom.now in
    let ns = c.args.page.now.nodes.now in
    IfOk-weaker c.fill_leaving-in-Outside.result _ _ (λ b h. (
      h.0,
      outside_broken r a c.in-Outside.name c.in-Outside.field-1 b c.in-Outside.is h.1,
      own_size ns r c.args.n c.args.attrs.now b h.0 a c.requires.there,
    )) c.fill_leaving-in-Outside.ensures

pub returns-in_default : goal.returns-in_default
returns-in_default c =
    let d = c.in_default in
    let r = c.args.breach.now.rule.now in
    let a = c.args.breach.now.atom.now in
    let ns = c.args.page.now.nodes.now in
    IfOk-weaker c.fill_attrs.result _ _ (λ b h. (
      h.0,
      other_broken ns r c.args.n c.args.attrs.now a b d.not-NotAllowed d.not-OtherValue d.not-Absent d.not-Outside,
      own_size ns r c.args.n c.args.attrs.now b h.0 a c.requires.there,
    )) c.fill_attrs.ensures
