use Rattle.std.proofs.Common.{ℕ, List, [], ◌++◌, codes, subst}
use Rattle.std.proofs.lemmas.List.{append-nil}
use Rattle.bw_out.specs.Sends.{Sends}
use Rattle.bw_http.specs.Replies.{message, text_type}
use Rattle.bw_http.proofs.replies.write_words.Goals as goal

pub returns : goal.returns
returns g c =
    subst
    (λ (t : List ℕ). Sends g.W.Channel c.args.sink.now c.write_text.new.sink (message c.args.status.now text_type [] (t ++ codes "\n")) c.write_text.result)
    (append-nil c.args.words.now) c.write_text.ensures
