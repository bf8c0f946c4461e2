use Rattle.std.proofs.Common.{refl, subst, ◌∙◌, ap}
use Rattle.std.specs.Io.KnownBytes.{Appends}
use Rattle.bw_out.specs.Writes.{AppendsPart}
use Rattle.bw_user.specs.Messages.{body_in}
use Rattle.bw_visit.specs.Exchanges.{standing}
use Rattle.bw_visit.proofs.Going.{quiet_visit, broken_visit, over_visit, unknown_visit, memory_visit, sends_visit}
use Rattle.bw_visit.proofs.visiting.turn.Goals as goal

pub returns-then-not-exchange-clause-turned : goal.returns-then-not-exchange-clause-turned
returns-then-not-exchange-clause-turned g c =
    quiet_visit c.args.room.now.message.items c.args.lines.now (standing g.K.Keys c.args.host.now) (standing g.K.Keys c.exchange.new.host)
    (g.W.Channel.held c.args.out.now)

pub returns-in-Err-clause-turned : goal.returns-in-Err-clause-turned
returns-in-Err-clause-turned g c =
    broken_visit c.args.room.now.message.items c.args.lines.now (standing g.K.Keys c.args.host.now) (standing g.K.Keys c.exchange.new.host)
    (g.W.Channel.held c.args.out.now) (g.W.Channel.held c.write_all.new.sink) c.exchange.new.room.sink.held
    (c.if-not-exchange.ensures.exchanges refl)
    (subst (λ b. AppendsPart (g.W.Channel.held c.args.out.now) (g.W.Channel.held c.write_all.new.sink) b) c.bytes.ensures c.in-Err.ensures.writes.part)

pub returns-in-Over-clause-turned : goal.returns-in-Over-clause-turned
returns-in-Over-clause-turned g c =
    over_visit c.args.room.now.message.items c.args.lines.now (standing g.K.Keys c.args.host.now) (standing g.K.Keys c.exchange.new.host)
    (g.W.Channel.held c.args.out.now) (g.W.Channel.held c.write_all.new.sink) c.exchange.new.room.sink.held
    (c.if-not-exchange.ensures.exchanges refl) c.body_in-body.result.now
    (subst (λ b. Appends (g.W.Channel.held c.args.out.now) (g.W.Channel.held c.write_all.new.sink) b) c.bytes.ensures c.in-Ok.ensures.writes.whole)
    (c.body_in-body.ensures ∙ ap body_in c.bytes-2.ensures) c.in-Over.ensures.next

pub returns-in-Unknown-clause-turned : goal.returns-in-Unknown-clause-turned
returns-in-Unknown-clause-turned g c =
    unknown_visit c.args.room.now.message.items c.args.lines.now (standing g.K.Keys c.args.host.now) (standing g.K.Keys c.exchange.new.host)
    (g.W.Channel.held c.args.out.now) (g.W.Channel.held c.write_all.new.sink) c.exchange.new.room.sink.held
    (c.if-not-exchange.ensures.exchanges refl) c.body_in-body.result.now c.in-Unknown.name
    (subst (λ b. Appends (g.W.Channel.held c.args.out.now) (g.W.Channel.held c.write_all.new.sink) b) c.bytes.ensures c.in-Ok.ensures.writes.whole)
    (c.body_in-body.ensures ∙ ap body_in c.bytes-2.ensures) c.in-Unknown.ensures.next

pub returns-in-Memory-clause-turned : goal.returns-in-Memory-clause-turned
returns-in-Memory-clause-turned g c =
    memory_visit c.args.room.now.message.items c.args.lines.now (standing g.K.Keys c.args.host.now) (standing g.K.Keys c.exchange.new.host)
    (g.W.Channel.held c.args.out.now) (g.W.Channel.held c.write_all.new.sink) c.exchange.new.room.sink.held
    (c.if-not-exchange.ensures.exchanges refl)
    (subst (λ b. Appends (g.W.Channel.held c.args.out.now) (g.W.Channel.held c.write_all.new.sink) b) c.bytes.ensures c.in-Ok.ensures.writes.whole)

pub returns-in-Sends-clause-turned : goal.returns-in-Sends-clause-turned
returns-in-Sends-clause-turned g c = λ new now end visited.
    sends_visit c.args.room.now.message.items c.args.lines.now (standing g.K.Keys c.args.host.now) (standing g.K.Keys c.exchange.new.host)
    (g.W.Channel.held c.args.out.now) (g.W.Channel.held c.write_all.new.sink) c.exchange.new.room.sink.held
    (c.if-not-exchange.ensures.exchanges refl) c.body_in-body.result.now c.go_on.new.message.items c.in-Sends.later.now new now end
    c.exchange.ensures.same.3 c.exchange.ensures.service
    (subst (λ b. Appends (g.W.Channel.held c.args.out.now) (g.W.Channel.held c.write_all.new.sink) b) c.bytes.ensures c.in-Ok.ensures.writes.whole)
    (c.body_in-body.ensures ∙ ap body_in c.bytes-2.ensures) c.in-Sends.ensures.next visited
