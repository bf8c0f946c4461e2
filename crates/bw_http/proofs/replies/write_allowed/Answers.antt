use Rattle.std.proofs.Common.{ℕ, List, codes, subst}
use Rattle.bw_out.specs.Sends.{Sends}
use Rattle.bw_http.specs.Replies.{message, text_type}
use Rattle.bw_http.proofs.replies.write_allowed.Goals as goal

pub returns : goal.returns
returns g c =
    subst
    (λ (t : List ℕ). Sends g.W.Channel c.args.sink.now c.write_text.new.sink
    (message (codes "HTTP/1.1 405 Method Not Allowed") text_type t (codes "method not allowed\n")) c.write_text.result)
    c.allow_line.ensures c.write_text.ensures
