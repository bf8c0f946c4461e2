use Rattle.std.proofs.Common.{[], refl, ◌++◌, codes, map}
use Rattle.bw_out.proofs.SendLaws.{sent, then_sends, sends_stops}
use Rattle.bw_http.specs.Replies.{shown}
use Rattle.bw_http.proofs.Written.{name_bytes}
use Rattle.bw_http.proofs.replies.write_name.Goals as goal

pub returns-in_err-write_head : goal.returns-in_err-write_head
returns-in_err-write_head g c =
    let words = c.args.words.now in let name = c.args.name.now in
    sends_stops _ (words ++ (map shown name ++ codes "\n")) c.in_err-write_head.ensures c.from_residual.ensures.0
    (name_bytes (codes "HTTP/1.1 422 Unprocessable Content") [] words name _ c.line_length-length.ensures)

pub returns-in_err-write_all : goal.returns-in_err-write_all
returns-in_err-write_all g c =
    let words = c.args.words.now in let name = c.args.name.now in
    then_sends g.W.Channel g.met.W.Sink.same_trans _ (words ++ (map shown name ++ codes "\n")) (sent c.in_ok-write_head.ensures)
    (sends_stops words (map shown name ++ codes "\n") c.in_err-write_all.ensures c.from_residual-in_err-write_all.ensures.0 refl)
    (name_bytes (codes "HTTP/1.1 422 Unprocessable Content") [] words name _ c.line_length-length.ensures)

pub returns-in_err-write_shown : goal.returns-in_err-write_shown
returns-in_err-write_shown g c =
    let words = c.args.words.now in let name = c.args.name.now in
    then_sends g.W.Channel g.met.W.Sink.same_trans _ (words ++ (map shown name ++ codes "\n")) (sent c.in_ok-write_head.ensures)
    (then_sends g.W.Channel g.met.W.Sink.same_trans words (map shown name ++ codes "\n") (sent c.in_ok-write_all.ensures)
    (sends_stops (map shown name) (codes "\n") c.in_err-write_shown.ensures c.from_residual-in_err-write_shown.ensures.0 refl) refl)
    (name_bytes (codes "HTTP/1.1 422 Unprocessable Content") [] words name _ c.line_length-length.ensures)

pub returns : goal.returns
returns g c =
    let words = c.args.words.now in let name = c.args.name.now in
    then_sends g.W.Channel g.met.W.Sink.same_trans _ (words ++ (map shown name ++ codes "\n")) (sent c.in_ok-write_head.ensures)
    (then_sends g.W.Channel g.met.W.Sink.same_trans words (map shown name ++ codes "\n") (sent c.in_ok-write_all.ensures)
    (then_sends g.W.Channel g.met.W.Sink.same_trans (map shown name) (codes "\n") (sent c.in_ok-write_shown.ensures) c.write_all-2.ensures refl) refl)
    (name_bytes (codes "HTTP/1.1 422 Unprocessable Content") [] words name _ c.line_length-length.ensures)
