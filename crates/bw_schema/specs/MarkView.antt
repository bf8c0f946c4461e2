-- A mark of the code as a mark.
use Rattle.std.specs.Prelude.{string_bytes}
use Rattle.bw_schema.specs.Marks.{Mark, mark}
use Rattle.bw_schema.specs.declared.marks.Mark.{Mark as Held}

abbrev pub mark_of : Held → Mark
mark_of m = mark m.rule m.kind (string_bytes m.name)
