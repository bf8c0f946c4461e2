use Rattle.std.proofs.Common.{ℕ, List, ◌++◌, subst, codes, ◌∙◌}
use Rattle.bw_out.specs.Sends.{Sends}
use Rattle.bw_http.proofs.replies.write_head.Goals as goal

pub returns : goal.returns
returns g c =
    subst
    (λ (t : List ℕ). Sends g.W.Channel c.args.sink.now c.write_parts.new.sink (c.args.status.now ++ (codes "\r\nContent-Type: "
    ++ (c.args.kind.now ++ (codes "\r\nContent-Length: " ++ (t ++ (codes "\r\n"
    ++ (c.args.more.now ++ codes "Cache-Control: no-store\r\nConnection: close\r\n\r\n"))))))) c.write_parts.result)
    (c.as_bytes.ensures.value ∙ c.format.ensures.text) c.write_parts.ensures
