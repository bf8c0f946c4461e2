use Rattle.std.proofs.Common.{sym, ◌∙◌}
use Rattle.std.proofs.lemmas.Result.{IfOk-weaker}
use Rattle.bw_excerpt.proofs.Utf8Texts.{readable_whole, readable_plain}
use Rattle.bw_excerpt.proofs.excerpt.readable.Goals as goal

pub returns-in_ok-to_vec-in-Ok : goal.returns-in_ok-to_vec-in-Ok
returns-in_ok-to_vec-in-Ok c =
    c.in_ok-to_vec-in-Ok.ensures.items_if_clones_equal (λ x y e. e) ∙ sym (readable_whole c.args.text.now c.in-Ok.ensures.cases.1)

pub returns-in-Err : goal.returns-in-Err
returns-in-Err c =
    IfOk-weaker c.plain_text.result _ _ (λ v h. h ∙ sym (readable_plain c.args.text.now c.in-Err.ensures.cases.0)) c.plain_text.ensures
