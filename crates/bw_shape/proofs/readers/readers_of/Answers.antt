use Rattle.std.proofs.Common.{length, subst, arith}
use Rattle.bw_shape.specs.Rows.Rounds.{AreReadersBelow, Entered}
use Rattle.bw_shape.proofs.Rows.Waking.{entered_all}
use Rattle.bw_shape.proofs.readers.readers_of.Goals as goal

pub loop-n-preserved : goal.loop-n-preserved
loop-n-preserved g c =
    entered_all c.loop-n.invariant
    (subst (λ ls. Entered c.loop-n.n ls (length ls) c.loop-n.readers.items c.enter_all.new.readers.items) c.links.ensures c.in_ok-enter_all.ensures)

pub returns : goal.returns
returns g c =
    subst (λ n. AreReadersBelow n c.args.rows (g.R.Rule.links c.args.rule.now) c.loop-n.readers.items)
    (omega (arith, c.loop-n-test.false, c.loop-n.auto.n-end)) c.loop-n.invariant
