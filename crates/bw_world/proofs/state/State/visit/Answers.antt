use Rattle.std.proofs.Common.{sym, ap, ◌∙◌, subst, refl, arith}
use Rattle.std.specs.Prelude.{option_copied}
use Rattle.bw_http.specs.declared.replies.Reply.TheVariants as replies
use Rattle.bw_model.specs.Steps.{asks, taken_out}
use Rattle.bw_world.specs.Changes.{shown_page, with_first}
use Rattle.bw_world.specs.Stands.{Ends, model}
use Rattle.bw_world.proofs.Asked.{none_asked}
use Rattle.bw_world.proofs.Posted.{answered_stale, sent_again}
use Rattle.bw_world.proofs.Standing.{paged}
use Rattle.bw_world.proofs.state.State.visit.Goals as goal

pub returns-in_default-clause-step : goal.returns-in_default-clause-step
returns-in_default-clause-step g c ls h =
    none_asked c.args.self.now ls h c.args.steps.now c.args.request.now.method c.args.request.now.form c.args.number c.args.key c.args.turn
    (sym c.get.ensures.found ∙ ap option_copied c.in_default.is)

pub returns-then-turn-current-clause-step : goal.returns-then-turn-current-clause-step
returns-then-turn-current-clause-step g c ls h =
    answered_stale c.args.self.now c.get.ensures.kept.apart ls h c.args.number c.args.key c.in-Some.one.now (sym c.in-Some.ensures.found)
    c.args.request.now.form c.args.request.now.method c.args.turn c.args.steps.now c.if-turn-current.true

pub returns-in-Get-clause-step : goal.returns-in-Get-clause-step
returns-in-Get-clause-step g c ls h =
    let w = c.args.self.now in
    let a = c.args.steps.now in
    let one = c.in-Some.one.now in
    let e = sym c.in-Some.ensures.found in
    subst (λ m. Ends w c.again.new.self c.again.result a a (asks w.service (model w ls) m c.args.request.now.form c.args.turn
    (taken_out c.args.number c.args.key ls))) (sym c.in-Get.is)
    (sent_again w c.get.ensures.kept.apart ls h c.args.number c.args.key one e c.args.request.now.form c.args.turn a c.again.new.self c.again.result
    c.if-turn-current.false (c.again.ensures one e))

pub returns-in-Get-clause-stays : goal.returns-in-Get-clause-stays
returns-in-Get-clause-stays g c =
    let w = c.args.self.now in
    let one = c.in-Some.one.now in
    paged w c.again.new.self c.again.result (replies.Page (shown_page w.service one.number one.key one.turn one.page)) (with_first w one w.shared)
    c.args.steps.now c.args.steps.now (λ e. cc) tt refl (omega arith) (c.again.ensures one (sym c.in-Some.ensures.found))
