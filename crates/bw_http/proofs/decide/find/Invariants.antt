use Rattle.std.proofs.Common.{map, take}
use Rattle.httparse.specs.Spans.{header_bytes}
use Rattle.bw_http.specs.Decisions.{IsFound, values}
use Rattle.bw_http.proofs.decide.find.Given as goal

abbrev pub invariant-loop-header : goal.invariant-loop-header
invariant-loop-header l = IsFound l.buf (values l.name (map (header_bytes l.buf) (take l.header-index l.headers))) l.found
