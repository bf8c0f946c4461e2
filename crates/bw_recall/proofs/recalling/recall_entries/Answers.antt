use Rattle.std.proofs.Common.{◌∙◌, refl, rules, arith}
use Rattle.bw_recall.proofs.SoFar.{at_start, broken, damaged, done, one_more, too_many, wanting}
use Rattle.bw_recall.proofs.recalling.recall_entries.Goals as goal

pub entries-init : goal.entries-init
entries-init g c = record {
  so = at_start c.args.formats.now c.args.world.now c.args.start.len c.args.start.sum c.args.window.now (g.S.Channel.left c.args.source.now);
  few = omega arith;
  size = refl;
  service = refl;
  steps = omega arith;
  took = record { quiet = refl; held = refl; write_faults = refl; same = search rules };
}

pub entries-preserved : goal.entries-preserved
entries-preserved g c =
    let before = c.entries.invariant in
    let now = c.in-Entry.ensures in record {
      so = one_more c.args.formats.now c.args.world.now c.entries.world c.recall_next.new.world c.args.start.len c.args.start.sum c.args.window.now
          (g.S.Channel.left c.args.source.now) c.entries.window c.recall_next.new.window (g.S.Channel.left c.entries.source)
          (g.S.Channel.left c.recall_next.new.source) c.entries.len c.entries.sum before.so c.in-Entry.more c.in-Entry.after before.service now.advances;
      few = omega (arith, before.few, now.few);
      size = now.size ∙ before.size;
      service = now.service ∙ before.service;
      steps = omega (arith, before.steps, now.steps);
      took = record {
        quiet = now.takes.cause.other (λ e. cc) ∙ before.took.quiet;
        held = now.takes.held ∙ before.took.held;
        write_faults = now.takes.write_faults ∙ before.took.write_faults;
        same = search rules;
      };
    }

pub returns-in-End-clause-recalled : goal.returns-in-End-clause-recalled
returns-in-End-clause-recalled g c =
    done c.args.formats.now c.args.world.now c.entries.world c.recall_next.new.world c.args.start.len c.args.start.sum c.args.window.now
    (g.S.Channel.left c.args.source.now) c.entries.window c.recall_next.new.window (g.S.Channel.left c.entries.source)
    (g.S.Channel.left c.recall_next.new.source) c.entries.len c.entries.sum c.entries.invariant.so c.in-End.ensures.advances

pub returns-in-Wrong-clause-recalled : goal.returns-in-Wrong-clause-recalled
returns-in-Wrong-clause-recalled g c =
    damaged c.args.formats.now c.args.world.now c.entries.world c.recall_next.new.world c.args.start.len c.args.start.sum c.args.window.now
    (g.S.Channel.left c.args.source.now) c.entries.window c.recall_next.new.window (g.S.Channel.left c.entries.source)
    (g.S.Channel.left c.recall_next.new.source) c.entries.len c.entries.sum c.entries.invariant.so c.in-Wrong.ensures.advances

pub returns-in-ReadFault-clause-recalled : goal.returns-in-ReadFault-clause-recalled
returns-in-ReadFault-clause-recalled g c =
    broken c.args.formats.now c.args.world.now c.entries.world c.recall_next.new.world c.args.start.len c.args.start.sum c.args.window.now
    (g.S.Channel.left c.args.source.now) c.entries.window c.recall_next.new.window (g.S.Channel.left c.entries.source)
    (g.S.Channel.left c.recall_next.new.source) c.entries.len c.entries.sum c.entries.invariant.so c.in-ReadFault.ensures.advances

pub returns-in-Memory-clause-recalled : goal.returns-in-Memory-clause-recalled
returns-in-Memory-clause-recalled g c =
    wanting c.args.formats.now c.args.world.now c.entries.world c.recall_next.new.world c.args.start.len c.args.start.sum c.args.window.now
    (g.S.Channel.left c.args.source.now) c.entries.window c.recall_next.new.window (g.S.Channel.left c.entries.source)
    (g.S.Channel.left c.recall_next.new.source) c.entries.len c.entries.sum c.entries.invariant.so c.in-Memory.ensures.advances

pub returns-clause-recalled : goal.returns-clause-recalled
returns-clause-recalled g c =
    too_many c.args.formats.now c.args.world.now c.entries.world c.args.start.len c.args.start.sum c.args.window.now (g.S.Channel.left c.args.source.now)
    c.entries.window (g.S.Channel.left c.entries.source) c.entries.len c.entries.sum c.entries.invariant.so
