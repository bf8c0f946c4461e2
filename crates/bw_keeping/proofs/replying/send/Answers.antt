use Rattle.std.proofs.Common.{[], ap, ◌∙◌, subst}
use Rattle.bw_lang.specs.Table.Names.{with_names}
use Rattle.bw_types.specs.Fields.{field_names}
use Rattle.bw_http.specs.Replies.{bytes_of}
use Rattle.bw_out.specs.Sends.{Sends}
use Rattle.bw_keeping.proofs.replying.send.Goals as goal

pub returns : goal.returns
returns g c =
    let names = c.fields.ensures ∙ ap (λ t. with_names [] (field_names t.service)) c.typed.ensures
    ∙ ap (λ s. with_names [] (field_names s)) c.checked.ensures in
    subst (λ b. Sends g.C.Channel c.args.link.now c.write_reply.new.sink b c.write_reply.result) (ap (λ fields. bytes_of fields c.args.reply) names)
    c.write_reply.ensures
