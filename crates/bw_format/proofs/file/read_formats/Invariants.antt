use Rattle.std.proofs.Common.{◌+◌, ◌-◌, ◌≤◌, List, [], take, drop}
use Rattle.std.specs.declared.result.Result.{Result}
use Rattle.bw_format.specs.declared.file.FormatFault.{FormatFault}
use Rattle.bw_format.specs.declared.format.Format.{Format}
use Rattle.bw_format.specs.FormatFile.{Reads, lines, lines_from}
use Rattle.bw_format.proofs.file.read_formats.Given as goal

abbrev pub invariant-loop-i : goal.invariant-loop-i
invariant-loop-i l = record {
  start : l.start ≤ l.i;
  number : l.number ≤ l.i + 1;
  reads : (r : Result (List Format) FormatFault) → Reads l.number l.formats (lines_from (take (l.i - l.start) (drop l.start l.bytes)) (drop l.i l.bytes)) r
      → Reads 1 [] (lines l.bytes) r;
}
