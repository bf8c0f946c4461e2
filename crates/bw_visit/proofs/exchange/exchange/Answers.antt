use Rattle.std.proofs.Common.{ap, ◌∙◌, refl, subst, Some, arith, length, ◌<◌, ◌^◌}
use Rattle.bw_visit.specs.Exchanges.{standing}
use Rattle.bw_visit.proofs.Exchanged.{exchanged_from}
use Rattle.bw_visit.proofs.exchange.exchange.Goals as goal

pub returns-clause-exchanges : goal.returns-clause-exchanges
returns-clause-exchanges g c = λ e.
    let a = c.if-not-answer_one.ensures.answers refl in
    exchanged_from c.args.room.now.message.items (standing g.K.Keys c.args.host.now) (standing g.K.Keys c.answer_one.new.host) c.answer_one.new.intake
    (Some c.answer_one.new.source.left) c.answer_one.new.sink.held c.requires.some (omega arith)
    (subst (λ l. length l < 2 ^ 64) c.bytes.ensures c.bytes.type_inv.0) a.0 c.clear-2.new.self c.clear.new.self.held (Some c.new-source.result.left)
    (ap (λ s. Some s.left) c.new-source.ensures ∙ ap Some c.as_slice-message.ensures.value) c.clear-2.ensures (ap (λ s. s.held) c.clear.ensures) a.1
