use Rattle.std.proofs.Common.{sym, arith}
use Rattle.std.proofs.lemmas.List.{take_all, length-take-le}
use Rattle.bw_http.proofs.head.front.Goals as goal

pub slice_bounds-result-end : goal.slice_bounds-result-end
slice_bounds-result-end c = sym (length-take-le 16384 c.args.bytes.now (omega arith))

pub returns-else-bytes-gt-MAX_HEAD_BYTES : goal.returns-else-bytes-gt-MAX_HEAD_BYTES
returns-else-bytes-gt-MAX_HEAD_BYTES c = sym (take_all 16384 c.args.bytes.now (omega arith))
