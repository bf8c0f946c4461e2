use Rattle.std.proofs.Common.{◌≡◌, ◌++◌, map, take}
use Rattle.bw_schema.specs.Marks.{mark}
use Rattle.bw_schema.proofs.marks.Marks.push_each.Given as goal

abbrev pub invariant-loop-name : goal.invariant-loop-name
invariant-loop-name l = l.self ≡ l.fn.self ++ map (mark l.rule l.kind) (take l.name-index l.name-items)
