use Rattle.std.proofs.Common.{List, ℕ, None, Some, subst}
use Rattle.bw_journal.specs.Saved.{IsSavedSize}
use Rattle.bw_recall.proofs.Begun.{through, unsized}
use Rattle.bw_recall.proofs.starting.read_saved.Goals as goal

pub hold_saved-requires-clause-size : goal.hold_saved-requires-clause-size
hold_saved-requires-clause-size g c = subst (λ (b : List ℕ). IsSavedSize b (Some c.in-Some.size)) c.bytes.ensures.value c.in-Some.ensures

pub returns-in-None-clause-starts : goal.returns-in-None-clause-starts
returns-in-None-clause-starts g c = λ unread is none.
    unsized c.args.start c.args.window.now c.hold.new.self (g.S.Channel.left c.args.source.now) (g.S.Channel.left c.hold.new.source) c.in-Ok.ensures.filled
    c.in-Ok.ensures.ended unread is none (subst (λ (b : List ℕ). IsSavedSize b None) c.bytes.ensures.value c.in-None.ensures) c.in-Ok.ensures.holds

pub returns-in-Some-clause-starts : goal.returns-in-Some-clause-starts
returns-in-Some-clause-starts g c = λ unread is none.
    through c.args.start c.args.window.now c.hold.new.self (g.S.Channel.left c.args.source.now) (g.S.Channel.left c.hold.new.source) c.in-Ok.ensures.filled
    c.in-Ok.ensures.ended unread is none c.hold_saved.new.window (g.S.Channel.left c.hold_saved.new.source) c.hold_saved.result c.hold_saved.ensures.starts
