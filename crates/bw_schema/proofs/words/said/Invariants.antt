use Rattle.std.proofs.Common.{◌≡◌, take}
use Rattle.std.specs.Prelude.{flat_map}
use Rattle.bw_schema.proofs.Lists.{said_by}
use Rattle.bw_schema.proofs.words.said.Given as goal

abbrev pub invariant-loop-line : goal.invariant-loop-line
invariant-loop-line l = l.said.items ≡ flat_map (λ line. said_by line.now) (take l.line-index l.line-items)
