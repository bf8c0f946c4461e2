use Rattle.std.proofs.Common.{◌≡◌, drop}
use Rattle.bw_schema.specs.Steps.Reading.{lines_of}
use Rattle.bw_schema.proofs.Loops.{in_front}
use Rattle.bw_schema.proofs.lines.lines_of.Given as goal

abbrev pub invariant-loop-words : goal.invariant-loop-words
invariant-loop-words l = lines_of l.version l.said ≡ in_front l.lines.items (lines_of l.version (drop l.words-index l.said))
