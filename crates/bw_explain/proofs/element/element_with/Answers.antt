use Rattle.std.proofs.Common.{◌≤◌, refl, ap, ◌∙◌, subst}
use Rattle.bw_explain.specs.declared.sizes.TheConstants.{PAST}
use Rattle.bw_explain.specs.declared.reach.Reach.{Reach}
use Rattle.bw_explain.specs.Owns.{own_least}
use Rattle.bw_explain.specs.Sizes.{plus}
use Rattle.bw_explain.specs.Walks.{doc_of, from, at, walk}
use Rattle.bw_explain.proofs.Breaking.{lent_docs, top_walk, big_is_broken, made_is_broken}
use Rattle.bw_explain.proofs.OwnCases.{own_within}
use Rattle.bw_explain.proofs.element.element_with.Goals as goal

pub draft_items-requires-clause-ready : goal.draft_items-requires-clause-ready
draft_items-requires-clause-ready c = record {
  most = c.goals.ensures.most;
  zero = λ o. refl;
  plain = λ o. c.requires.plain.doc;
  known = λ x y lo le hi. lent_docs c.args.ground.now.page.now c.args.breach.now.rule.now c.args.breach.now.atom.now c.args.tables.now c.known.result
      c.requires.tables c.known.ensures.stay
      c.known.ensures.first c.known.ensures.second c.known.ensures.whole x y le (subst (λ v. y ≤ v) c.goals.ensures.is hi);
  made = tt;
}

pub fill_own-requires-clause-there : goal.fill_own-requires-clause-there
fill_own-requires-clause-there c = subst (λ v. v ≤ PAST) c.own_least-own.ensures.is
    (own_within c.own_least-own.result c.at.result c.plus.result c.plus-size.result c.plus-size.ensures.sum c.plus.ensures.sum c.if-size-gt-MAX_SIZE.false)

pub returns-then-size-gt-MAX_SIZE : goal.returns-then-size-gt-MAX_SIZE
returns-then-size-gt-MAX_SIZE c =
    let p = c.args.ground.now.page.now in
    let r = c.args.breach.now.rule.now in
    let a = c.args.breach.now.atom.now in
    let e = c.args.element.now in
    let k = c.known.ensures in
    let u = walk (top_walk p r a c.args.tables.now c.known.result c.args.ground.now.plain.now c.requires.tables k.stay k.first k.second k.whole
    c.requires.plain)
    c.args.n 0 (from 0) e.items in
    big_is_broken p r a c.args.tables.now c.known.result c.args.ground.now.plain.now c.requires.tables k.stay k.first k.second k.whole c.requires.plain
    c.args.n e
    (record { size = c.plus-size.result; made = record { attrs = c.new.result; items = c.new-then-size-gt-MAX_SIZE.result } })
    (c.plus-size.ensures.sum ∙ ap (λ z. plus z c.at.result) (c.plus.ensures.sum ∙ ap (plus 1) c.own_least-own.ensures.is)
    ∙ ap (plus (plus 1 (own_least p.nodes.now r a c.args.n e.attrs))) (c.at.ensures.is ∙ ap (λ (x : Reach). at x c.goals.result) c.reach_items-inner.ensures.is
    ∙ ap (at u) c.goals.ensures.is)) c.plus-size.ensures.most c.if-size-gt-MAX_SIZE.true

pub returns : goal.returns
returns c =
    let p = c.args.ground.now.page.now in
    let r = c.args.breach.now.rule.now in
    let a = c.args.breach.now.atom.now in
    let e = c.args.element.now in
    let k = c.known.ensures in
    let d = c.in-Ok.draft in
    let u = walk (top_walk p r a c.args.tables.now c.known.result c.args.ground.now.plain.now c.requires.tables k.stay k.first k.second k.whole
    c.requires.plain)
    c.args.n 0 (from 0) e.items in
    made_is_broken p r a c.args.tables.now c.known.result c.args.ground.now.plain.now c.requires.tables k.stay k.first k.second k.whole c.requires.plain
    c.args.n e
    (record { size = c.plus-size.result; made = record { attrs = c.in_ok-attrs.attrs; items = c.into_doc.result } }) c.goals.result
    (doc_of d.start d.middle d.last)
    (c.plus-size.ensures.sum ∙ ap (λ z. plus z c.at.result) (c.plus.ensures.sum ∙ ap (plus 1) c.own_least-own.ensures.is)
    ∙ ap (plus (plus 1 (own_least p.nodes.now r a c.args.n e.attrs))) (c.at.ensures.is ∙ ap (λ (x : Reach). at x c.goals.result) c.reach_items-inner.ensures.is
    ∙ ap (at u) c.goals.ensures.is)) c.plus-size.ensures.most c.goals.ensures.is c.in_ok-attrs.ensures c.in-Ok.ensures c.into_doc.ensures
