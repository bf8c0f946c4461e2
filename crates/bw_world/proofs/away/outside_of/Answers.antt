use Rattle.std.proofs.Common.{◌≡◌, List, sym, ap, ◌∙◌, subst}
use Rattle.bw_flow.specs.Steps.{Step, Plan}
use Rattle.bw_flow.specs.Layout.{flow_of}
use Rattle.bw_world.specs.Away.{FirstOutside, received_by}
use Rattle.bw_world.proofs.Agreeing.{away_from, away_from_none, away_there}
use Rattle.bw_world.proofs.away.outside_of.Goals as goal

pub returns-in-None-clause-away : goal.returns-in-None-clause-away
returns-in-None-clause-away c =
    away_from_none c.args.world.now c.in-None.ensures.kept c.args.formats.now c.args.form.now c.args.number c.args.key c.args.turn (sym c.in-None.ensures.found)

pub returns-in-Some-clause-away : goal.returns-in-Some-clause-away
returns-in-Some-clause-away c =
    let w = c.args.world.now in
    let flow : c.flow.result.now.steps ≡ flow_of w.service = ap (λ (f : Plan). f.steps) (c.flow.ensures ∙ c.checked.result.now.lowered) ∙ ap flow_of c.checked.ensures in
    away_from w c.in-Some.ensures.kept c.args.formats.now c.args.form.now c.args.number c.args.key c.args.turn c.in-Some.one.now
    (sym c.in-Some.ensures.found) c.in-Some.ensures.fit c.outside_by.result
    (subst (λ (f : List Step). FirstOutside c.args.formats.now c.args.form.now (received_by f c.in-Some.one.now c.args.turn c.args.form.now) c.outside_by.result) flow
    c.outside_by.ensures)

pub returns-in-Some-clause-there : goal.returns-in-Some-clause-there
returns-in-Some-clause-there c =
    let w = c.args.world.now in
    let flow : c.flow.result.now.steps ≡ flow_of w.service = ap (λ (f : Plan). f.steps) (c.flow.ensures ∙ c.checked.result.now.lowered) ∙ ap flow_of c.checked.ensures in
    away_there w c.in-Some.ensures.kept c.args.formats.now c.args.form.now c.args.number c.args.key c.args.turn c.in-Some.one.now
    (sym c.in-Some.ensures.found) c.in-Some.ensures.fit c.outside_by.result
    (subst (λ (f : List Step). FirstOutside c.args.formats.now c.args.form.now (received_by f c.in-Some.one.now c.args.turn c.args.form.now) c.outside_by.result) flow
    c.outside_by.ensures)
