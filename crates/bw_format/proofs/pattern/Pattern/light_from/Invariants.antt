use Rattle.std.proofs.Common.{◌≡◌, IsUtf8, chars, true, length}
use Rattle.std.specs.Str.Iter.{chars_rest}
use Rattle.bw_format.specs.Marks.{ended, light_from}
use Rattle.bw_format.specs.Pattern.{places}
use Rattle.bw_format.proofs.pattern.Pattern.light_from.Given as goal

abbrev pub invariant-loop-c : goal.invariant-loop-c
invariant-loop-c l =
    IsUtf8 (chars_rest l.c-iterator)
    × (light_from l.self l.enter l.marks (chars (chars_rest l.c-iterator)) ≡ light_from l.self true l.initial.marks (chars l.fn.text))
    × (length l.marks ≡ places l.self)
    × (l.ended ≡ ended l.self l.marks)
