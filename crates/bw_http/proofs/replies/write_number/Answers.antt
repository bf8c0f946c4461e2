use Rattle.std.proofs.Common.{ℕ, List, ◌++◌, subst, ◌∙◌}
use Rattle.bw_out.specs.Sends.{Sends}
use Rattle.bw_http.specs.Replies.{plain}
use Rattle.bw_http.proofs.replies.write_number.Goals as goal

pub returns : goal.returns
returns g c =
    subst (λ (t : List ℕ). Sends g.W.Channel c.args.sink.now c.write_text.new.sink (plain c.args.status.now (c.args.words.now ++ t)) c.write_text.result)
    (c.as_bytes.ensures.value ∙ c.format.ensures.text) c.write_text.ensures
