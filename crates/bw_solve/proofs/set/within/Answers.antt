use Rattle.std.proofs.Common.{sym, ◌∙◌, inl, inr, arith}
use Rattle.bw_solve.proofs.Walk.{walk_less, walk_same, walk_more, walk_ends}
use Rattle.bw_solve.proofs.set.within.Goals as goal
use Rattle.bw_solve.proofs.set.within.Goals.{then-loop-i-test+else-j-b, else-loop-i-test}

pub returns-in-Less : goal.returns-in-Less
returns-in-Less g c =
    walk_less g.met.T.Ord.total c.args.a.now c.args.b.now c.loop-i.i c.loop-i.j c.index-a-i.result c.index-b-j.result c.requires.a c.requires.b
    c.loop-i-test.true c.if-j-b.true c.index-a-i.is c.index-b-j.is
    (sym c.cmp.ensures ∙ c.in-Less.is)
    ∙ c.loop-i.invariant.done

pub loop-i-preserved-in-Equal : goal.loop-i-preserved-in-Equal
loop-i-preserved-in-Equal g c = record {
  a_in = omega (arith, c.loop-i-test.true);
  b_in = omega (arith, c.if-j-b.true);
  done = walk_same g.met.T.Ord.total c.args.a.now c.args.b.now c.loop-i.i c.loop-i.j c.index-a-i.result c.index-b-j.result c.requires.a c.requires.b
      c.loop-i-test.true c.if-j-b.true c.index-a-i.is c.index-b-j.is
      (sym c.cmp.ensures ∙ c.in-Equal.is)
      ∙ c.loop-i.invariant.done;
}

pub loop-i-preserved : goal.loop-i-preserved
loop-i-preserved g c = record {
  a_in = c.loop-i.invariant.a_in;
  b_in = omega (arith, c.if-j-b.true);
  done = walk_more g.met.T.Ord.total c.args.a.now c.args.b.now c.loop-i.i c.loop-i.j c.index-a-i.result c.index-b-j.result c.requires.a c.requires.b
      c.loop-i-test.true c.if-j-b.true c.index-a-i.is c.index-b-j.is
      (sym c.cmp.ensures ∙ c.in-Greater.is)
      ∙ c.loop-i.invariant.done;
}

pub returns : goal.returns
returns g c =
    walk_ends g.T.Ord.cmp c.args.a.now c.args.b.now c.loop-i.i c.loop-i.j c.loop-i.invariant.a_in
    (elim c.loop-i-test.branch [ then-loop-i-test+else-j-b w ↦ inr (w.loop-i-test.true, w.if-j-b.false) | else-loop-i-test w ↦ inl w.loop-i-test.false ])
    c.loop-i.invariant.done
