use Rattle.std.proofs.Common.{◌<◌, length, ap, sym, ◌∙◌, subst}
use Rattle.std.specs.Prelude.{Ok}
use Rattle.bw_flow.specs.View.{seen}
use Rattle.bw_run.specs.Follow.Runs.{first_of, second_of}
use Rattle.bw_run.proofs.Fits.{can_walk}
use Rattle.bw_run.proofs.Keeping.{can_do_there, goes_first, goes_second}
use Rattle.bw_run.proofs.Measures.{less_first, less_second}
use Rattle.bw_run.proofs.walk.pass.Goals as goal

pub returns-in-First-clause-inside : goal.returns-in-First-clause-inside
returns-in-First-clause-inside g c =
    let flow = c.args.flow.now.steps in
    subst (λ q. q < length flow) (sym (c.first_of.ensures
    ∙ ap first_of c.as_slice.ensures)) ((can_walk c.args.typed.now c.args.flow.now c.requires.flow).first c.args.at
    (seen c.in-Some.point.now) c.in-Some.ensures)

pub returns-in-First-clause-less : goal.returns-in-First-clause-less
returns-in-First-clause-less g c =
    let flow = c.args.flow.now.steps in
    let x = seen c.in-Some.point.now in
    less_first flow c.args.at c.first_of.result (first_of x.next) c.args.standing.now.units c.cut.new.self.units c.step.new.standing.units x
    c.in_ok-step.field-0 c.in-First.is (c.first_of.ensures ∙ ap first_of c.as_slice.ensures) c.cut.ensures.units c.in_ok-step.ensures.paid
    (λ j. (can_walk c.args.typed.now c.args.flow.now c.requires.flow).joins c.args.at x c.in-Some.ensures j)

pub returns-in-Second-clause-inside : goal.returns-in-Second-clause-inside
returns-in-Second-clause-inside g c =
    let flow = c.args.flow.now.steps in
    subst (λ q. q < length flow) (sym (c.second_of.ensures
    ∙ ap second_of c.as_slice-in-Second.ensures)) ((can_walk c.args.typed.now c.args.flow.now c.requires.flow).second c.args.at
    (seen c.in-Some.point.now) c.in-Some.ensures)

pub returns-in-Second-clause-less : goal.returns-in-Second-clause-less
returns-in-Second-clause-less g c =
    let flow = c.args.flow.now.steps in
    let x = seen c.in-Some.point.now in
    less_second flow c.args.at c.second_of.result c.args.standing.now.units c.cut.new.self.units c.step.new.standing.units x c.in_ok-step.field-0
    c.in-Second.is c.cut.ensures.units c.in_ok-step.ensures.paid

pub step-requires : goal.step-requires
step-requires g c =
    can_do_there c.args.typed.now c.args.flow.now c.requires.flow c.args.at (seen c.in-Some.point.now) c.in-Some.ensures c.args.standing.now c.cut.new.self
    c.len.result c.requires.kinds c.len.ensures c.cut.ensures.state (c.cut.ensures.sound c.args.typed.now.service.templates c.requires.sound)

pub returns-in-First-clause-kinds : goal.returns-in-First-clause-kinds
returns-in-First-clause-kinds g c =
    goes_first c.args.typed.now c.args.flow.now c.requires.flow c.args.at (seen c.in-Some.point.now) c.in-Some.ensures c.args.standing.now c.cut.new.self
    c.len.result c.requires.kinds c.len.ensures c.cut.ensures.state c.first_of.result c.step.new.standing c.args.steps.now c.step.new.steps c.step.result
    (c.in_ok-step.was ∙ ap Ok c.in-First.is) (c.first_of.ensures ∙ ap first_of c.as_slice.ensures) c.step.ensures

pub returns-in-Second-clause-kinds : goal.returns-in-Second-clause-kinds
returns-in-Second-clause-kinds g c =
    goes_second c.args.typed.now c.args.flow.now c.requires.flow c.args.at (seen c.in-Some.point.now) c.in-Some.ensures c.args.standing.now c.cut.new.self
    c.len.result c.requires.kinds c.len.ensures c.cut.ensures.state c.second_of.result c.step.new.standing c.args.steps.now c.step.new.steps c.step.result
    (c.in_ok-step.was ∙ ap Ok c.in-Second.is) (c.second_of.ensures ∙ ap second_of c.as_slice-in-Second.ensures) c.step.ensures
