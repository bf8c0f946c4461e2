use Rattle.std.proofs.Common.{sym}
use Rattle.std.proofs.lemmas.Bool.{and_parts}
use Rattle.bw_explain.specs.Aims.{aim_of}
use Rattle.bw_explain.proofs.Making.{next_says, loose_next, loose_open, loose_said}
use Rattle.bw_explain.proofs.gaps.loose_item.Goals as goal

pub wordy_word-requires : goal.wordy_word-requires
wordy_word-requires c =
    (and_parts _ (aim_of c.args.aim.now).wordy (next_says (aim_of c.args.aim.now) c.args.way.now c.args.from c.args.to c.if-from-to.true c.requires).1).0

pub returns-then-from-to : goal.returns-then-from-to
returns-then-from-to c = loose_next (aim_of c.args.aim.now) c.args.way.now c.args.from c.args.to c.in_ok-wordy_word.field-0 c.if-from-to.true c.requires
    c.in_ok-wordy_word.ensures.0 c.in_ok-wordy_word.ensures.1

pub returns-then-is_open : goal.returns-then-is_open
returns-then-is_open c = loose_open (aim_of c.args.aim.now) c.args.way.now c.args.from c.args.to c.gap.result c.if-from-to.false
    (sym c.if-is_open.ensures) c.gap.ensures

pub returns : goal.returns
returns c = loose_said (aim_of c.args.aim.now) c.args.way.now c.args.from c.args.to c.in_ok-word.field-0 c.if-from-to.false
    c.in_ok-word.ensures
