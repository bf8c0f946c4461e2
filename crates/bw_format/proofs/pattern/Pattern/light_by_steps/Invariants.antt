use Rattle.std.proofs.Common.{◌≡◌, IsUtf8, chars, take}
use Rattle.std.specs.Str.Iter.{chars_rest}
use Rattle.bw_format.specs.Marks.{light, light_from}
use Rattle.bw_format.specs.Pattern.{places}
use Rattle.bw_format.proofs.Walks.{IsOver}
use Rattle.bw_format.proofs.pattern.Pattern.light_by_steps.Given as goal

abbrev pub invariant-loop-c : goal.invariant-loop-c
invariant-loop-c l =
    IsUtf8 (chars_rest l.c-iterator)
    × (light_from l.self l.enter (take (places l.self) l.walk.marks) (chars (chars_rest l.c-iterator)) ≡ light l.self (chars l.fn.text))
    × IsOver l.self l.enter l.ends 256 l.walk
