use Rattle.std.proofs.Common.{◌≡◌, ◌++◌, length, take}
use Rattle.std.specs.List.{flat_map}
use Rattle.std.specs.Int.{w32, to_be_bytes}
use Rattle.bw_saved.specs.Fields.Spelling.{text}
use Rattle.bw_save.proofs.fields.put_strings.Given as goal

abbrev pub invariant-loop-s : goal.invariant-loop-s
invariant-loop-s l = l.out.items ≡ l.fn.out.items ++ (to_be_bytes w32 (length l.ss) ++ flat_map text (take l.s-index l.ss))
