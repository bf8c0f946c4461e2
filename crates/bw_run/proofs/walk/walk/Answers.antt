use Rattle.std.proofs.Common.{◌≡◌, ◌∙◌, refl, arith}
use Rattle.std.specs.Prelude.{Ok}
use Rattle.bw_run.specs.declared.walk.Advance.TheVariants.{To, Waits, Ends}
use Rattle.bw_run.specs.Code.{IsSound}
use Rattle.bw_run.specs.Walks.{IsInside, AdvancesTo}
use Rattle.bw_run.proofs.Measures.{follows_here, follows_on, follows_end, fault_end, ok_run, ok_fact, ok_on}
use Rattle.bw_run.proofs.walk.walk.Goals as goal

pub walk-init : goal.walk-init
walk-init g c = record {
  inside = c.requires.inside;
  follows = follows_here c.args.typed.now.service c.args.flow.now.steps c.args.start c.args.standing.now;
  sound = c.requires.sound;
  kinds = c.requires.kinds;
  left = omega arith;
  steps = refl;
}

pub returns-in-Err-clause-run : goal.returns-in-Err-clause-run
returns-in-Err-clause-run g c =
    fault_end c.args.typed.now.service c.args.flow.now.steps c.args.start c.walk.at c.args.standing.now c.walk.standing c.pass.new.standing
    c.pass.result _ c.in-Err.fault c.in-Err.is refl c.walk.invariant.follows c.pass.ensures.run

pub walk-preserved : goal.walk-preserved
walk-preserved g c =
    let e : c.pass.result ≡ Ok (To c.in-To.next) = cc in
    record {
      inside = ok_fact c.pass.result (To c.in-To.next) (IsInside c.args.flow.now.steps) e c.pass.ensures.inside;
      follows = follows_on c.args.typed.now.service c.args.flow.now.steps c.args.start c.walk.at c.in-To.next c.args.standing.now c.walk.standing
          c.pass.new.standing c.walk.invariant.follows
          (ok_run c.args.typed.now.service c.args.flow.now.steps c.walk.at c.walk.standing c.pass.new.standing c.pass.result (To c.in-To.next) e
          c.pass.ensures.run);
      sound = ok_on c.pass.result (To c.in-To.next) (IsSound c.args.typed.now.service.templates c.pass.new.standing) e c.pass.ensures.sound;
      kinds = ok_fact c.pass.result (To c.in-To.next) (AdvancesTo c.args.typed.now.service c.args.flow.now.steps c.pass.new.standing) e c.pass.ensures.kinds;
      left = omega (arith, c.pass.ensures.left, c.walk.invariant.left);
      steps = c.pass.ensures.steps ∙ c.walk.invariant.steps;
    }

pub returns-in-Waits-clause-run : goal.returns-in-Waits-clause-run
returns-in-Waits-clause-run g c m =
    let e : c.pass.result ≡ Ok (Waits c.in-Waits.doc) = cc in
    follows_end c.args.typed.now.service c.args.flow.now.steps c.args.start c.walk.at c.args.standing.now c.walk.standing _ c.walk.invariant.follows
    (ok_run c.args.typed.now.service c.args.flow.now.steps c.walk.at c.walk.standing c.pass.new.standing c.pass.result (Waits c.in-Waits.doc) e
    c.pass.ensures.run)

pub returns-in-Ends-clause-run : goal.returns-in-Ends-clause-run
returns-in-Ends-clause-run g c m =
    let e : c.pass.result ≡ Ok (Ends c.in-Ends.doc) = cc in
    follows_end c.args.typed.now.service c.args.flow.now.steps c.args.start c.walk.at c.args.standing.now c.walk.standing _ c.walk.invariant.follows
    (ok_run c.args.typed.now.service c.args.flow.now.steps c.walk.at c.walk.standing c.pass.new.standing c.pass.result (Ends c.in-Ends.doc) e
    c.pass.ensures.run)
