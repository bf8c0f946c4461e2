use Rattle.std.proofs.Common.{[], sym, ◌∙◌, subst, arith}
use Rattle.std.specs.List.{Contains}
use Rattle.std.proofs.lemmas.List.{get_or_default}
use Rattle.bw_shape.specs.Rows.Rounds.{Step}
use Rattle.bw_shape.proofs.Rows.Rounds.{look_new}
use Rattle.bw_shape.proofs.rule.look.Goals as goal

pub returns : goal.returns
returns g c =
    let n = c.args.n in
    let readers = c.args.readers.now in
    let is = c.index-readers-n.is ∙ get_or_default readers n c.index-readers-n.result [] (omega (arith, c.requires.row, c.requires.readers.len)) in
    look_new (g.met.R.Rule.reads c.args.rule.now) c.requires.readers c.requires.row c.requires.due
    (record {
      len = c.put.ensures.len;
      here = c.put.ensures.here (omega (arith, c.requires.row, c.requires.due));
      others = c.put.ensures.others;
    })
    (subst (λ b. Step (g.R.Rule.width c.args.rule.now) (g.R.Rule.follows c.args.rule.now) n c.args.known.now c.step.new.known b) c.if-not-branch.false
    c.in_ok-step.ensures) c.wake.ensures.len c.wake.ensures.before
    (λ m l h k. c.wake.ensures.apart m l h (subst (λ xs. Contains xs m) (sym is) k))
