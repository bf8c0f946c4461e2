use Rattle.std.proofs.Common.{◌≡◌, drop}
use Rattle.bw_schema.specs.NeedsView.{needs}
use Rattle.bw_explain.specs.Splits.{some_split}
use Rattle.bw_explain.proofs.split.some_split.Given as goal

abbrev pub invariant-loop-need : goal.invariant-loop-need
invariant-loop-need l = some_split l.scene l.needs l.attrs l.items ≡ some_split l.scene (needs (drop l.need-index l.need-items)) l.attrs l.items
