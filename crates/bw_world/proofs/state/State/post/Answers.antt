use Rattle.std.proofs.Common.{◌≡◌, ◌<◌, ◌^◌, ◌-◌, suc, Ok, sym, ◌∙◌, subst, refl, arith}
use Rattle.std.proofs.lemmas.Option.{same_Some}
use Rattle.bw_http.specs.declared.replies.Reply.TheVariants as replies
use Rattle.bw_http.specs.declared.request.Method.TheVariants.{Post}
use Rattle.bw_http.specs.Replies.{IsReply}
use Rattle.bw_meaning.specs.GoOn.{go_on}
use Rattle.bw_model.specs.Steps.{asks, taken_out}
use Rattle.bw_run.specs.Fit.{IsFitTurn}
use Rattle.bw_run.specs.Turns.{IsTurn, answered_frame}
use Rattle.bw_world.specs.declared.suspended.Suspended.{Suspended}
use Rattle.bw_world.specs.Changes.{shown_page, last_page, went_on, with_first, without}
use Rattle.bw_world.specs.Kept.{IsSuspended}
use Rattle.bw_flow.specs.Layout.{flow_of}
use Rattle.bw_world.specs.Stands.{Ends, fields_of, model}
use Rattle.bw_world.proofs.Asked.{refused_differs, turn_taken}
use Rattle.bw_world.proofs.Opened.{went_fit}
use Rattle.bw_world.proofs.Posted.{post_refused, post_last, post_failed, post_exited, post_shown}
use Rattle.bw_world.proofs.Refused.{names_of_refused}
use Rattle.bw_world.proofs.Standing.{stayed, paged, failure_is_reply}
use Rattle.bw_world.proofs.state.State.post.Goals as goal

pub returns-in-Some-clause-step : goal.returns-in-Some-clause-step
returns-in-Some-clause-step g c s e ls h =
    let w = c.args.self.now in
    let one = c.one-one.result.now in
    let k = c.one-one.ensures.kept in
    let a = c.args.steps.now in
    let is : one ≡ s = same_Some one s (sym c.one-one.ensures.found ∙ e) in
    subst (λ (z : Suspended). Ends w w c.refusal.result a a (asks w.service (model w ls) Post c.args.form.now z.turn (taken_out c.args.number c.args.key ls)))
    is
    (post_refused w k.apart ls h c.args.number c.args.key one c.one-one.ensures.found c.args.form.now k.typed k.is c.one-one.ensures.fit one.turn refl
    c.in-Some.fault c.refusal.result a (sym c.missing.ensures ∙ c.in-Some.is) c.refusal.ensures)

pub returns-in-Some-clause-stays : goal.returns-in-Some-clause-stays
returns-in-Some-clause-stays g c =
    let w = c.args.self.now in
    let one = c.one-one.result.now in
    let k = c.one-one.ensures.kept in
    stayed w c.refusal.result c.args.steps.now c.args.steps.now
    (subst (IsReply (fields_of w.service)) (sym c.refusal.ensures)
    (names_of_refused k.typed w.service k.is one.session one.frame c.args.form.now c.one-one.ensures.fit.frame c.one-one.ensures.fit.own c.in-Some.fault
    (sym c.missing.ensures ∙ c.in-Some.is))) (omega arith)

pub returns-in-Some-clause-plain : goal.returns-in-Some-clause-plain
returns-in-Some-clause-plain g c s e p q = refused_differs c.in-Some.fault (sym c.refusal.ensures ∙ q)

pub returns-then-turn-clause-step : goal.returns-then-turn-clause-step
returns-then-turn-clause-step g c s e ls h =
    let w = c.args.self.now in
    let one = c.one-one.result.now in
    let k = c.one-one.ensures.kept in
    let a = c.args.steps.now in
    let is : one ≡ s = same_Some one s (sym c.one-one.ensures.found ∙ e) in
    subst (λ (z : Suspended). Ends w w replies.NoTurns a a (asks w.service (model w ls) Post c.args.form.now z.turn (taken_out c.args.number c.args.key ls)))
    is
    (post_last w k.apart ls h c.args.number c.args.key one c.one-one.ensures.found c.args.form.now k.typed k.is c.one-one.ensures.fit one.turn refl a
    (sym c.missing.ensures ∙ c.in_default.is) c.if-turn.true)

pub next_turn-requires-clause-missing : goal.next_turn-requires-clause-missing
next_turn-requires-clause-missing g c = sym c.missing.ensures ∙ c.in_default.is

pub returns-in-Err-clause-step : goal.returns-in-Err-clause-step
returns-in-Err-clause-step g c s e ls h =
    let w = c.args.self.now in
    let one = c.one-one.result.now in
    let k = c.one-one.ensures.kept in
    let a = c.args.steps.now in
    let b = c.next_turn.new.steps in
    let is : one ≡ s = same_Some one s (sym c.one-one.ensures.found ∙ e) in
    subst (λ (z : Suspended). Ends w w c.failed.result a b (asks w.service (model w ls) Post c.args.form.now z.turn (taken_out c.args.number c.args.key ls)))
    is
    (post_failed w k.apart ls h c.args.number c.args.key one c.one-one.ensures.found c.args.form.now k.typed k.is c.one-one.ensures.fit one.turn refl
    (sym c.missing.ensures ∙ c.in_default.is) c.if-turn.false a b c.next_turn.ensures.rises c.failed.result c.in-Err.fault c.failed.ensures
    c.in-Err.ensures.turn)

pub returns-in-Err-clause-stays : goal.returns-in-Err-clause-stays
returns-in-Err-clause-stays g c =
    let names = fields_of c.args.self.now.service in
    stayed c.args.self.now c.failed.result c.args.steps.now c.next_turn.new.steps
    (subst (IsReply names) (sym c.failed.ensures) (failure_is_reply names c.in-Err.fault)) c.next_turn.ensures.rises

pub returns-in-Err-clause-plain : goal.returns-in-Err-clause-plain
returns-in-Err-clause-plain g c s e p =
    let one = c.one-one.result.now in
    absurd (turn_taken (flow_of c.args.self.now.service) c.args.form.now one s (sym c.missing.ensures ∙ c.in_default.is) c.if-turn.false
    (same_Some one s (sym c.one-one.ensures.found ∙ e)) p)

pub leave-requires : goal.leave-requires
leave-requires g c =
    let w = c.args.self.now in
    (subst (IsFitTurn w.service (flow_of w.service)) c.in-Ok-Exited.field-0-is c.in-Ok-Exited.ensures.fit).1

pub returns-in-Ok-Exited-clause-step : goal.returns-in-Ok-Exited-clause-step
returns-in-Ok-Exited-clause-step g c s e ls h =
    let w = c.args.self.now in
    let one = c.one-one.result.now in
    let k = c.one-one.ensures.kept in
    let a = c.args.steps.now in
    let b = c.next_turn.new.steps in
    let is : one ≡ s = same_Some one s (sym c.one-one.ensures.found ∙ e) in
    subst (λ (z : Suspended). Ends w c.leave.new.self c.leave.result a b
    (asks w.service (model w ls) Post c.args.form.now z.turn (taken_out c.args.number c.args.key ls))) is
    (post_exited w k.apart ls h c.args.number c.args.key one c.one-one.ensures.found c.args.form.now k.typed k.is c.one-one.ensures.fit one.turn refl
    (sym c.missing.ensures ∙ c.in_default.is) c.if-turn.false a b c.next_turn.ensures.rises c.leave.new.self c.leave.result c.in-Ok-Exited.doc
    c.in-Ok-Exited.shared
    (subst (λ x. IsTurn (flow_of w.service) (Ok x) a b
    (go_on w.service one.session (answered_frame (flow_of w.service) one.frame c.args.form.now w.shared))) c.in-Ok-Exited.field-0-is
    (c.in-Ok-Exited.ensures.turn tt)) c.leave.ensures)

pub returns-in-Ok-Exited-clause-stays : goal.returns-in-Ok-Exited-clause-stays
returns-in-Ok-Exited-clause-stays g c =
    let w = c.args.self.now in
    paged w c.leave.new.self c.leave.result (replies.Final (last_page w.service c.in-Ok-Exited.doc)) (without w c.args.number c.in-Ok-Exited.shared)
    c.args.steps.now c.next_turn.new.steps (λ e. cc) tt refl c.next_turn.ensures.rises c.leave.ensures

pub keep-requires-clause-fit : goal.keep-requires-clause-fit
keep-requires-clause-fit g c s e =
    let w = c.args.self.now in
    let one = c.one-one.result.now in
    let is : one ≡ s = same_Some one s (sym c.one-one.ensures.found ∙ e) in
    subst (λ (z : Suspended). (z.turn < 2 ^ 32 - 1) × IsSuspended w.service (went_on z c.in-Ok-Shown.frame c.in-Ok-Shown.page)) is (
      omega (arith, c.if-turn.false),
      went_fit w c.in-Ok-Shown.frame c.in-Ok-Shown.page c.in-Ok-Shown.shared one c.in-Ok-Shown.field-0 c.in-Ok-Shown.field-0-is c.in-Ok-Shown.ensures.fit
          c.in-Ok-Shown.ensures.own,
    )

pub keep-requires-clause-there : goal.keep-requires-clause-there
keep-requires-clause-there g c = (c.one-one.result.now, c.one-one.ensures.found)

pub keep-requires-clause-shared : goal.keep-requires-clause-shared
keep-requires-clause-shared g c =
    let w = c.args.self.now in
    (subst (IsFitTurn w.service (flow_of w.service)) c.in-Ok-Shown.field-0-is c.in-Ok-Shown.ensures.fit).2

pub returns-in-Ok-Shown-clause-step : goal.returns-in-Ok-Shown-clause-step
returns-in-Ok-Shown-clause-step g c s e ls h =
    let w = c.args.self.now in
    let one = c.one-one.result.now in
    let k = c.one-one.ensures.kept in
    let a = c.args.steps.now in
    let b = c.next_turn.new.steps in
    let is : one ≡ s = same_Some one s (sym c.one-one.ensures.found ∙ e) in
    subst (λ (z : Suspended). Ends w c.keep.new.self c.keep.result a b
    (asks w.service (model w ls) Post c.args.form.now z.turn (taken_out c.args.number c.args.key ls))) is
    (post_shown w k.apart ls h c.args.number c.args.key one c.one-one.ensures.found c.args.form.now k.typed k.is c.one-one.ensures.fit one.turn refl
    (sym c.missing.ensures ∙ c.in_default.is) c.if-turn.false a b c.next_turn.ensures.rises c.keep.new.self c.keep.result c.in-Ok-Shown.frame
    c.in-Ok-Shown.page c.in-Ok-Shown.shared
    (subst (λ x. IsTurn (flow_of w.service) (Ok x) a b
    (go_on w.service one.session (answered_frame (flow_of w.service) one.frame c.args.form.now w.shared))) c.in-Ok-Shown.field-0-is
    (c.in-Ok-Shown.ensures.turn tt)) (c.keep.ensures one c.one-one.ensures.found))

pub returns-in-Ok-Shown-clause-stays : goal.returns-in-Ok-Shown-clause-stays
returns-in-Ok-Shown-clause-stays g c =
    let w = c.args.self.now in
    let one = c.one-one.result.now in
    paged w c.keep.new.self c.keep.result
    (replies.Page (shown_page w.service one.number one.key (suc one.turn) c.in-Ok-Shown.page))
    (with_first w (went_on one c.in-Ok-Shown.frame c.in-Ok-Shown.page) c.in-Ok-Shown.shared)
    c.args.steps.now c.next_turn.new.steps (λ e. cc) tt refl c.next_turn.ensures.rises (c.keep.ensures one c.one-one.ensures.found)

pub returns-in-Ok-Exited-clause-plain : goal.returns-in-Ok-Exited-clause-plain
returns-in-Ok-Exited-clause-plain g c s e p =
    let one = c.one-one.result.now in
    absurd (turn_taken (flow_of c.args.self.now.service) c.args.form.now one s (sym c.missing.ensures ∙ c.in_default.is) c.if-turn.false
    (same_Some one s (sym c.one-one.ensures.found ∙ e)) p)

pub returns-in-Ok-Shown-clause-plain : goal.returns-in-Ok-Shown-clause-plain
returns-in-Ok-Shown-clause-plain g c s e p =
    let one = c.one-one.result.now in
    absurd (turn_taken (flow_of c.args.self.now.service) c.args.form.now one s (sym c.missing.ensures ∙ c.in_default.is) c.if-turn.false
    (same_Some one s (sym c.one-one.ensures.found ∙ e)) p)
