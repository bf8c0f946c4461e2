use Rattle.std.proofs.Common.{ap, ◌∙◌, []}
use Rattle.bw_lang.specs.Table.Names.{with_names}
use Rattle.bw_types.specs.Fields.{field_names}
use Rattle.bw_world.proofs.Streams.Messages.{answer_broken, refusal_broken}
use Rattle.bw_world.proofs.stream.answer_next.Goals as goal

pub returns-in-Err-clause-goes : goal.returns-in-Err-clause-goes
returns-in-Err-clause-goes g c =
    refusal_broken c.args.formats.now c.args.world.now.service _ _ _ _ c.in-Refused.reply _
    (c.fields.ensures ∙ ap (λ t. with_names [] (field_names t.service)) c.typed.ensures
    ∙ ap (λ s. with_names [] (field_names s)) (c.checked.ensures ∙ c.in-Refused.ensures.service))
    c.in-Refused.ensures.takes c.in-Refused.ensures.reads.held c.in-Err.ensures.left c.in-Err.ensures.writes.part

pub returns-in-Err-write_reply-clause-goes : goal.returns-in-Err-write_reply-clause-goes
returns-in-Err-write_reply-clause-goes g c =
    answer_broken c.args.formats.now c.args.world.now.service _ _ _ _ c.in-Answered.reply _
    (c.fields-in-Answered.ensures ∙ ap (λ t. with_names [] (field_names t.service)) c.typed-in-Answered.ensures
    ∙ ap (λ s. with_names [] (field_names s)) (c.checked-in-Answered.ensures ∙ c.in-Answered.ensures.service))
    c.in-Answered.ensures.takes c.in-Answered.ensures.reads.held c.in-Err-write_reply.ensures.left c.in-Err-write_reply.ensures.writes.part
