use Rattle.std.proofs.Common.{◌++◌, codes}
use Rattle.bw_out.proofs.SendLaws.{sent, then_sends, sends_stops}
use Rattle.bw_http.proofs.Written.{text_bytes}
use Rattle.bw_http.proofs.replies.write_text.Goals as goal

pub returns-in_err-write_head : goal.returns-in_err-write_head
returns-in_err-write_head g c =
    sends_stops _ (c.args.words.now ++ (c.args.ending.now ++ codes "\n")) c.in_err-write_head.ensures c.from_residual.ensures.0
    (text_bytes c.args.status.now c.args.more.now c.args.words.now c.args.ending.now _ c.line_length-length.ensures)

pub returns : goal.returns
returns g c =
    then_sends g.W.Channel g.met.W.Sink.same_trans _ (c.args.words.now ++ (c.args.ending.now ++ codes "\n")) (sent c.in_ok-write_head.ensures)
    c.write_parts.ensures (text_bytes c.args.status.now c.args.more.now c.args.words.now c.args.ending.now _ c.line_length-length.ensures)
