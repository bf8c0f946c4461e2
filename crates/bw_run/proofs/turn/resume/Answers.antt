use Rattle.std.proofs.Common.{◌≡◌, ◌<◌, length, ap, sym, ◌∙◌, refl, subst}
use Rattle.std.specs.Prelude.{Ok, Err}
use Rattle.std.specs.List.{All}
use Rattle.std.proofs.lemmas.Option.{same_Some}
use Rattle.std.proofs.lemmas.List.Elements.{All-nil}
use Rattle.bw_flow.specs.Stands.{IsAt}
use Rattle.bw_flow.specs.Steps.{Plan}
use Rattle.bw_flow.specs.View.{seen}
use Rattle.bw_lang.specs.Service.Submissions.{values_of}
use Rattle.bw_eval.specs.View.{values}
use Rattle.bw_flow.specs.Flows.{fields_of}
use Rattle.bw_run.specs.Follow.Runs.{first_of}
use Rattle.bw_run.specs.Code.{AreShort}
use Rattle.bw_run.specs.Turns.{received_at, answered_frame}
use Rattle.bw_meaning.specs.GoOn.{go_on}
use Rattle.bw_meaning.specs.States.{units_left}
use Rattle.bw_eval.specs.Sound.{AreSound}
use Rattle.bw_run.specs.Follow.Kinds as kinds
use Rattle.bw_run.specs.Follow.Laws.{IsFit, IsOf}
use Rattle.bw_run.proofs.Follow.Kept.{going_on_keeps_kinds}
use Rattle.bw_run.specs.Walks.{number_of, number_at}
use Rattle.bw_run.proofs.Due.{behind_kinds_due}
use Rattle.bw_run.proofs.Own.{own_session}
use Rattle.bw_run.proofs.Fits.{fit_turn, going_on_waits, can_walk, names_from}
use Rattle.bw_run.proofs.Missed.{none_short}
use Rattle.bw_run.proofs.More.{one_more}
use Rattle.bw_run.proofs.Resumed.{fields_are, taken_is, GoesOn, resumed}
use Rattle.bw_run.proofs.turn.resume.Goals as goal
use Rattle.bw_run.proofs.turn.resume.Goals.{After-first_of-next}
use Rattle.bw_run.proofs.turn.resume.Given.{Over}

pub walk-requires-clause-inside : goal.walk-requires-clause-inside
walk-requires-clause-inside g c =
    subst (λ q. q < length c.args.flow.now.steps) (sym (c.first_of-next.ensures ∙ ap first_of c.as_slice-2.ensures))
    ((can_walk c.args.typed.now c.args.flow.now c.requires.flow).first c.args.frame.now.point (seen c.in-Some.point.now) c.in-Some.ensures)

-- what the form says is taken, and the walk begins behind the show
goes : (g : Over) (c : After-first_of-next g) → let flow = c.args.flow.now.steps in
    GoesOn c.args.typed.now.service flow c.args.frame.now c.requires.frame c.args.form.now c.args.shared.now c.receive_all.new.standing c.first_of-next.result
goes g c =
    let f = c.requires.frame in
    let x = seen c.in-Some.point.now in
    let e = same_Some x f.point (sym c.in-Some.ensures ∙ f.is) in
    let h = fields_are x f.point f.page f.fields c.in-Some-receives_of.receives.now e f.acts c.in-Some-receives_of.ensures.1 in
    record {
      state_is = taken_is f.fields c.as_slice.result.now c.args.frame.now.locals c.in_ok-copy.field-0 c.args.shared.now c.in_ok-copy-2.field-0
          c.args.form.now c.receive_all.new.standing (h ∙ sym c.as_slice.ensures) c.in_ok-copy.ensures c.in_ok-copy-2.ensures
          c.in_ok-receive_all.ensures.state;
      rests = c.in_ok-receive_all.ensures.rests ∙ c.in_ok-copy-3.ensures;
      units = c.in_ok-receive_all.ensures.units;
      next_is = c.first_of-next.ensures ∙ ap first_of c.as_slice-2.ensures ∙ ap (λ u. first_of u.next) e;
    }

pub walk-requires-clause-kinds : goal.walk-requires-clause-kinds
walk-requires-clause-kinds g c =
    behind_kinds_due c.args.typed.now c.args.flow.now c.args.frame.now c.requires.frame c.args.form.now c.args.shared.now c.receive_all.new.standing
    c.first_of-next.result c.requires.flow c.requires.shared.kinds_are (goes g (goal.at.walk-requires-clause-kinds g c).After-first_of-next)

pub returns-in-Err-clause-turn : goal.returns-in-Err-clause-turn
returns-in-Err-clause-turn g c m session of =
    resumed c.args.typed.now c.args.flow.now session c.args.frame.now c.requires.frame c.args.form.now c.args.shared.now c.receive_all.new.standing
    c.walk.new.standing c.first_of-next.result (Err c.in-Err.fault) (Err c.in-Err.fault) c.args.steps.now c.walk.new.steps c.requires.flow of
    (goes g (goal.at.returns-in-Err-clause-turn g c).After-first_of-next) (c.in-Err.ensures.run m) c.in-Err.ensures.steps refl

pub returns-in-Ok-clause-turn : goal.returns-in-Ok-clause-turn
returns-in-Ok-clause-turn g c m session of =
    resumed c.args.typed.now c.args.flow.now session c.args.frame.now c.requires.frame c.args.form.now c.args.shared.now c.receive_all.new.standing
    c.walk.new.standing c.first_of-next.result (Ok c.finished.result) (Ok c.in-Ok.stop) c.args.steps.now c.walk.new.steps c.requires.flow of
    (goes g (goal.at.returns-in-Ok-clause-turn g c).After-first_of-next) (c.in-Ok.ensures.run tt) c.in-Ok.ensures.steps
    (c.finished.ensures.turn c.args.flow.now.steps)

pub returns-in-Err-clause-inputs : goal.returns-in-Err-clause-inputs
returns-in-Err-clause-inputs g c m session first inputs s =
    one_more c.args.typed.now.service c.args.flow.now.steps c.args.frame.now c.args.form.now c.args.shared.now (Err c.in-Err.fault) c.args.steps.now
    c.walk.new.steps session first inputs (returns-in-Err-clause-turn g c m) s

pub returns-in-Ok-clause-inputs : goal.returns-in-Ok-clause-inputs
returns-in-Ok-clause-inputs g c m session first inputs s =
    one_more c.args.typed.now.service c.args.flow.now.steps c.args.frame.now c.args.form.now c.args.shared.now (Ok c.finished.result)
    c.args.steps.now c.walk.new.steps session first inputs (returns-in-Ok-clause-turn g c m) s

pub walk-requires-clause-sound : goal.walk-requires-clause-sound
walk-requires-clause-sound g c =
    let f = c.requires.frame in
    let ts = c.args.typed.now.service.templates in
    let x = seen c.in-Some.point.now in
    let e = same_Some x f.point (sym c.in-Some.ensures ∙ f.is) in
    let h = fields_are x f.point f.page f.fields c.in-Some-receives_of.receives.now e f.acts c.in-Some-receives_of.ensures.1 in
    let fields = ap received_at f.is ∙ ap fields_of f.acts ∙ h ∙ sym c.as_slice.ensures in
    c.in_ok-receive_all.ensures.sound ts (record {
      locals = subst (AreSound ts) (sym c.in_ok-copy.ensures) f.locals.sound;
      shared = subst (AreSound ts) (sym c.in_ok-copy-2.ensures) c.requires.shared.sound;
      rests = subst (All AreShort) (sym c.in_ok-copy-3.ensures) f.short;
    }) (subst (All (λ r. AreShort (values_of r.field c.args.form.now))) fields (none_short _ c.args.form.now c.requires.missing))

pub returns-in-Ok-clause-fit : goal.returns-in-Ok-clause-fit
returns-in-Ok-clause-fit g c =
    let typed = c.args.typed.now in
    let service = typed.service in
    let flow = c.args.flow.now in
    let frame = c.args.frame.now in
    let f = c.requires.frame in
    let at = subst (λ (p : Plan). IsAt p.steps frame.point f.point) c.requires.flow f.is in
    let own = own_session service frame.point f.point at in
    let number : number_at flow.steps frame.point ≡ f.point.number = ap number_of f.is in
    let of = subst (IsOf service own.0) (sym number) own.1 in
    let a = answered_frame flow.steps frame c.args.form.now c.args.shared.now in
    let o = go_on service own.0 a in
    let fit : IsFit f.point a = record { number = number; names = names_from (values frame.locals) f.point.scope f.locals.kinds_are; rests = f.rests } in
    fit_turn typed flow c.finished.result o (units_left o) c.requires.flow (returns-in-Ok-clause-turn g c tt own.0 of).outcome
    (going_on_keeps_kinds typed own.0 frame.point f.point f.page f.fields a at f.acts fit own.1 f.locals.kinds_are c.requires.shared.kinds_are
    (All-nil (λ i. kinds.AreShared service i.shared)))
    (going_on_waits typed own.0 frame.point f.point f.page f.fields a at f.acts fit own.1)
    (c.finished.ensures.sound service.templates flow.steps c.in-Ok.ensures.stops c.in-Ok.ensures.sound)
