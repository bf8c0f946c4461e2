use Rattle.std.proofs.Common.{[], Ok, sym, subst, refl}
use Rattle.bw_http.specs.declared.replies.Reply.TheVariants as replies
use Rattle.bw_http.specs.Replies.{IsReply}
use Rattle.bw_eval.specs.View.{values}
use Rattle.bw_meaning.specs.GoOn.{turn}
use Rattle.bw_run.specs.Fit.{IsFitTurn}
use Rattle.bw_run.specs.Turns.{IsTurn}
use Rattle.bw_world.specs.Changes.{shown_page, last_page, begun, with_new}
use Rattle.bw_flow.specs.Layout.{flow_of}
use Rattle.bw_world.specs.Stands.{fields_of}
use Rattle.bw_world.proofs.Begun.{begun_exit, begun_show, begun_failed}
use Rattle.bw_world.proofs.Opened.{begun_fit}
use Rattle.bw_world.proofs.Standing.{stayed, paged, failure_is_reply}
use Rattle.bw_world.proofs.state.State.begin.Goals as goal

pub returns-in-Err-clause-step : goal.returns-in-Err-clause-step
returns-in-Err-clause-step g c ls h =
    begun_failed c.args.self.now ls h c.args.key c.args.session c.args.steps.now c.first_turn.new.steps c.first_turn.ensures.rises c.failed.result
    c.in-Err.fault c.failed.ensures c.in-Err.ensures.turn

pub returns-in-Err-clause-stays : goal.returns-in-Err-clause-stays
returns-in-Err-clause-stays g c =
    let names = fields_of c.args.self.now.service in
    stayed c.args.self.now c.failed.result c.args.steps.now c.first_turn.new.steps
    (subst (IsReply names) (sym c.failed.ensures) (failure_is_reply names c.in-Err.fault)) c.first_turn.ensures.rises

pub pass-requires : goal.pass-requires
pass-requires g c =
    let w = c.args.self.now in
    (subst (IsFitTurn w.service (flow_of w.service)) c.in-Ok-Exited.field-0-is c.in-Ok-Exited.ensures.fit).1

pub returns-in-Ok-Exited-clause-step : goal.returns-in-Ok-Exited-clause-step
returns-in-Ok-Exited-clause-step g c ls h =
    let w = c.args.self.now in
    let a = c.args.steps.now in
    let b = c.first_turn.new.steps in
    begun_exit w ls h c.args.key c.args.session a b c.first_turn.ensures.rises c.pass.new.self c.pass.result c.in-Ok-Exited.doc c.in-Ok-Exited.shared
    (subst (λ x. IsTurn (flow_of w.service) (Ok x) a b (turn w.service c.args.session (values w.shared) [])) c.in-Ok-Exited.field-0-is
    (c.in-Ok-Exited.ensures.turn tt)) c.pass.ensures

pub returns-in-Ok-Exited-clause-stays : goal.returns-in-Ok-Exited-clause-stays
returns-in-Ok-Exited-clause-stays g c =
    let w = c.args.self.now in
    paged w c.pass.new.self c.pass.result (replies.Final (last_page w.service c.in-Ok-Exited.doc)) (record w { shared = c.in-Ok-Exited.shared })
    c.args.steps.now c.first_turn.new.steps (λ e. cc) tt refl c.first_turn.ensures.rises c.pass.ensures

pub found-requires-clause-fit : goal.found-requires-clause-fit
found-requires-clause-fit g c =
    begun_fit c.args.self.now c.in-Ok-Shown.frame c.in-Ok-Shown.page c.in-Ok-Shown.shared c.args.key c.args.session c.in-Ok-Shown.field-0
    c.in-Ok-Shown.field-0-is c.in-Ok-Shown.ensures.fit c.in-Ok-Shown.ensures.own

pub found-requires-clause-shared : goal.found-requires-clause-shared
found-requires-clause-shared g c =
    let w = c.args.self.now in
    (subst (IsFitTurn w.service (flow_of w.service)) c.in-Ok-Shown.field-0-is c.in-Ok-Shown.ensures.fit).2

pub returns-in-Ok-Shown-clause-step : goal.returns-in-Ok-Shown-clause-step
returns-in-Ok-Shown-clause-step g c ls h =
    let w = c.args.self.now in
    let a = c.args.steps.now in
    let b = c.first_turn.new.steps in
    begun_show w ls h c.args.key c.args.session a b c.first_turn.ensures.rises c.found.new.self c.found.result c.in-Ok-Shown.frame c.in-Ok-Shown.page
    c.in-Ok-Shown.shared
    (subst (λ x. IsTurn (flow_of w.service) (Ok x) a b (turn w.service c.args.session (values w.shared) [])) c.in-Ok-Shown.field-0-is
    (c.in-Ok-Shown.ensures.turn tt)) c.found.ensures

pub returns-in-Ok-Shown-clause-stays : goal.returns-in-Ok-Shown-clause-stays
returns-in-Ok-Shown-clause-stays g c =
    let w = c.args.self.now in
    let one = begun w c.args.key c.args.session c.in-Ok-Shown.frame c.in-Ok-Shown.page in
    paged w c.found.new.self c.found.result (replies.Page (shown_page w.service w.next c.args.key w.first c.in-Ok-Shown.page))
    (with_new w one c.in-Ok-Shown.shared) c.args.steps.now c.first_turn.new.steps (λ e. cc) tt refl c.first_turn.ensures.rises c.found.ensures
