use Rattle.std.proofs.Common.{[], codes, sym}
use Rattle.bw_out.proofs.SendLaws.{sent, then_sends, sends_stops}
use Rattle.bw_http.proofs.Written.{sheet_bytes}
use Rattle.bw_http.proofs.replies.write_sheet.Goals as goal

pub returns-in_err-write_head : goal.returns-in_err-write_head
returns-in_err-write_head g c =
    sends_stops _ c.args.sheet.now c.in_err-write_head.ensures c.from_residual.ensures.0
    (sheet_bytes (codes "HTTP/1.1 200 OK") c.args.kind.now [] c.args.sheet.now _ c.length.ensures)

pub returns : goal.returns
returns g c =
    then_sends g.W.Channel g.met.W.Sink.same_trans _ c.args.sheet.now (sent c.in_ok-write_head.ensures) (rw (sym c.as_bytes.ensures) c.write_all.ensures)
    (sheet_bytes (codes "HTTP/1.1 200 OK") c.args.kind.now [] c.args.sheet.now _ c.length.ensures)
